-- Steps that gave a value.
use Rattle.std.proofs.Common.{◌≡◌, Option, Some, None, option_map, Result, Ok, Err, refl}
use Rattle.std.proofs.lemmas.Option.{same_Some}
use Rattle.std.specs.Prelude.{option_and_then, ok_or}
use Rattle.fr_schedule.specs.declared.error.ConfigError.{ConfigError}
use Rattle.fr_schedule.specs.Files.{◌>>=◌}

pub then_some : {A B : Type 0} (o : Option A) (f : A → Option B) (y : B) → option_and_then f o ≡ Some y
    → (x : A) × (o ≡ Some x) × (f x ≡ Some y)
then_some None f y is = cc is
then_some (Some x) f y is = (x, refl, is)

pub map_some : {A B : Type 0} (f : A → B) (o : Option A) (y : B) → option_map f o ≡ Some y
    → (x : A) × (o ≡ Some x) × (f x ≡ y)
map_some f None y is = cc is
map_some f (Some x) y is = (x, refl, same_Some (f x) y is)

pub same_Ok : {A : Type 0} (x y : A) → let r : Result A ConfigError = Ok x in r ≡ Ok y → x ≡ y
same_Ok x y is = cc is

pub then_ok : {A B : Type 0} (r : Result A ConfigError) (f : A → Result B ConfigError) (y : B) → (r >>= f) ≡ Ok y
    → (x : A) × (r ≡ Ok x) × (f x ≡ Ok y)
then_ok (Err e) f y is = cc is
then_ok (Ok x) f y is = (x, refl, is)

pub or_ok : {A : Type 0} (o : Option A) (e : ConfigError) (y : A) → ok_or o e ≡ Ok y → o ≡ Some y
or_ok None e y is = cc is
or_ok (Some x) e y is = cc is
