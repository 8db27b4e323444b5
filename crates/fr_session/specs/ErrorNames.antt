-- The printed name of an error (project-defined).
use Rattle.std.specs.Prelude.{ℕ, List, codes}
use Rattle.fr_session.specs.declared.error.SessionError.{SessionError}
use Rattle.fr_session.specs.declared.error.SessionError.TheVariants as session

abbrev pub session_error_name : SessionError → List ℕ
session_error_name session.Read = codes "Read"
session_error_name session.Write = codes "Write"
session_error_name session.Memory = codes "Memory"
