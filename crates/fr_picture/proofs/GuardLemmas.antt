-- The rows of one node more, and the parts of a picture.
use Rattle.std.proofs.Common.{◌≡◌, ℕ, ◌+◌, List, [], ◌++◌, Option, Result, Ok, Err, length, refl, subst, sym}
use Rattle.std.proofs.Common.{add-one}
use Rattle.std.specs.Prelude.{OnOk}
use Rattle.std.specs.Io.KnownBytes.{Appends}
use Rattle.std.proofs.KnownBytes.{Appends-nil, Appends-trans}
use Rattle.fr_picture.specs.Dynamics.{IsDynamicText}
use Rattle.fr_picture.specs.Frames.{front_text}
use Rattle.fr_picture.specs.Guards.{AreGuardRows, IsGuardRow}
use Rattle.fr_picture.specs.Owners.{Adds, AreOwnerTexts}
use Rattle.fr_picture.specs.Ranges.{AreRanges}
use Rattle.fr_picture.specs.Schedules.{IsPicture}
use Rattle.fr_schedule.specs.Descriptions.{Description}
use Rattle.fr_slots.specs.declared.channel.Channel.TheVariants.{A, B}
use Rattle.fr_svg.specs.Elements.{picture_end}

pub no_guard : (d : Description) (cycle : ℕ) (old : Option (List ℕ)) → Adds (AreGuardRows d cycle 0) old old
no_guard d cycle old = ([], refl, Appends-nil old)

pub one_guard : (d : Description) (cycle node : ℕ) (old mid first new : Option (List ℕ))
    → Adds (AreGuardRows d cycle node) old mid
    → Adds (IsGuardRow d cycle node A) mid first → Adds (IsGuardRow d cycle node B) first new
    → Adds (AreGuardRows d cycle (node + 1)) old new
one_guard d cycle node old mid first new before on_a on_b =
    let (texts, texts_are, added) = before in
    let (a, a_is, added_a) = on_a in
    let (b, b_is, added_b) = on_b in (
      texts ++ a ++ b,
      subst (λ (n : ℕ). AreGuardRows d cycle n (texts ++ a ++ b)) (sym (add-one node))
          (texts, a, b, texts_are, a_is, b_is, refl),
      Appends-trans old first new (texts ++ a) b (Appends-trans old mid first texts a added added_a) added_b,
    )

-- all parts have been written, and then the end
pub picture_done : {X E : Type 0} (r : Result X E) (d guarded : Description) (cycle nodes : ℕ)
    (ranges : List ℕ) (w0 w1 w2 w3 w4 w5 w6 w7 : Option (List ℕ)) → AreRanges d cycle ranges → guarded ≡ d
    → nodes ≡ length d.plans
    → Appends w0 w1 (front_text d cycle)
    → Adds (AreOwnerTexts d cycle d.params.static_slots) w1 w2
    → Adds (IsDynamicText d cycle A) w2 w3 → Adds (IsDynamicText d cycle B) w3 w4
    → Appends w4 w5 ranges
    → Adds (AreGuardRows guarded cycle nodes) w5 w6
    → OnOk r (Appends w6 w7 picture_end)
    → OnOk r (Adds (IsPicture d cycle) w0 w7)
picture_done (Err e) d guarded cycle nodes ranges w0 w1 w2 w3 w4 w5 w6 w7 ranges_are same count front owners on_a on_b
    between guards last = tt
picture_done (Ok x) d guarded cycle nodes ranges w0 w1 w2 w3 w4 w5 w6 w7 ranges_are same count front owners on_a on_b
    between guards last =
    let (slots, slots_are, with_slots) = owners in
    let (a, a_is, with_a) = on_a in
    let (b, b_is, with_b) = on_b in
    let (rows, rows_are, with_rows) = guards in
    let head = front_text d cycle in
    let here = subst (λ (n : ℕ). AreGuardRows d cycle n rows) count
    (subst (λ (x : Description). AreGuardRows x cycle nodes rows) same rows_are) in (
      head ++ slots ++ a ++ b ++ ranges ++ rows ++ picture_end,
      record {
        owners = slots;
        dynamic_a = a;
        dynamic_b = b;
        ranges = ranges;
        guards = rows;
        owners_are = slots_are;
        dynamic_on_a = a_is;
        dynamic_on_b = b_is;
        ranges_are = ranges_are;
        guards_are = here;
        text_is = refl;
      },
      Appends-trans w0 w6 w7 (head ++ slots ++ a ++ b ++ ranges ++ rows) picture_end
          (Appends-trans w0 w5 w6 (head ++ slots ++ a ++ b ++ ranges) rows
          (Appends-trans w0 w4 w5 (head ++ slots ++ a ++ b) ranges
          (Appends-trans w0 w3 w4 (head ++ slots ++ a) b
          (Appends-trans w0 w2 w3 (head ++ slots) a
          (Appends-trans w0 w1 w2 head slots front with_slots) with_a) with_b) between) with_rows) last,
    )
