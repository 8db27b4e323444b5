-- The cluster and the names in a table are those of its text.
use Rattle.std.proofs.Common.{◌≡◌, ◌∙◌, ℕ, List, Some, Result, Ok, Err, ap}
use Rattle.std.specs.Str.{IsUtf8}
use Rattle.fr_files.specs.ClusterFiles.{IsClusterIn, IsRefused}
use Rattle.fr_files.specs.declared.error.BenchError.{BenchError}
use Rattle.fr_files.specs.declared.error.BenchError.TheVariants as error
use Rattle.fr_names.specs.NamedFiles.{IsClusterAt}
use Rattle.fr_schedule.specs.declared.error.ConfigError.{ConfigError}
use Rattle.fr_schedule.specs.declared.error.ConfigError.TheVariants as config
use Rattle.fr_schedule.specs.Descriptions.{Description}
use Rattle.fr_schedule.specs.Files.{description_of, or_no_toml}
use Rattle.toml.specs.Data.{Members}
use Rattle.toml.specs.Parse.{parse_document}

refused_so : (text : List ℕ) (e : ConfigError) → IsUtf8 text → or_no_toml (parse_document text) ≡ Err e
    → IsRefused text e
refused_so text config.Toml utf8 is = λ _. is
refused_so text (config.Params e) utf8 is = (utf8, is)
refused_so text config.BadGuard utf8 is = (utf8, is)
refused_so text config.TooManyNodes utf8 is = (utf8, is)
refused_so text (config.BadNode n) utf8 is = (utf8, is)
refused_so text (config.BadBuffer n b) utf8 is = (utf8, is)
refused_so text (config.NotOwned n b) utf8 is = (utf8, is)
refused_so text (config.DynamicBoth n b) utf8 is = (utf8, is)
refused_so text (config.Overlap s channel c) utf8 is = (utf8, is)
refused_so text (config.TooLong n b) utf8 is = (utf8, is)
refused_so text config.Memory utf8 is = (utf8, is)

pub cluster_told : (text : List ℕ) (root : Members) (r : Result Description BenchError) → IsUtf8 text
    → parse_document text ≡ Some root → IsClusterAt root r → IsClusterIn text r
cluster_told text root (Ok d) utf8 parsed at = (utf8, ap or_no_toml parsed ∙ at)
cluster_told text root (Err (error.Config e)) utf8 parsed at = refused_so text e utf8 (ap or_no_toml parsed ∙ at)
cluster_told text root (Err error.Memory) utf8 parsed at = utf8
cluster_told text root (Err error.TooLong) utf8 parsed at = absurd at
cluster_told text root (Err error.Read) utf8 parsed at = absurd at
cluster_told text root (Err error.Write) utf8 parsed at = absurd at
cluster_told text root (Err error.BadNumber) utf8 parsed at = absurd at
cluster_told text root (Err (error.Midpoint e)) utf8 parsed at = absurd at
