-- The value of `o >>= f` shows the values of its steps.
use Rattle.std.proofs.Common.{◌≡◌, Option, Some, None, refl}
use Rattle.fr_text.specs.Reading.{◌>>=◌}

pub bind_some : {A B : Type 0} (o : Option A) (f : A → Option B) (y : B) → (o >>= f) ≡ Some y
    → (x : A) × (o ≡ Some x) × (f x ≡ Some y)
bind_some None f y h = cc h
bind_some (Some x) f y h = (x, refl, h)
