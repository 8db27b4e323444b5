use Rattle.std.proofs.Common.{◌≡◌, Option, List, ℕ, None, sym, subst, ap}
use Rattle.std.specs.Prelude.{option_and_then}
use Rattle.fr_endless.proofs.TapLemmas.{front_unknown}
use Rattle.fr_endless.specs.Taps.{AddsFront}
use Rattle.fr_endless.proofs.taps.hand_file.Goals as goal

pub returns-in-None : goal.returns-in-None
returns-in-None g c =
    let none : option_and_then g.F.Write.contents c.args.file.now ≡ None =
    ap (option_and_then g.F.Write.contents) c.in-None.is in
    subst (λ (x : Option (List ℕ)). AddsFront None x x c.args.text.now) (sym none)
    (front_unknown None None c.args.text.now)
