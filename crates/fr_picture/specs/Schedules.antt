-- The command `schedule` on the text of a cluster file.
use Rattle.std.specs.Prelude.{◌≡◌, ℕ, ◌<◌, List, ◌++◌, length, Option, Result}
use Rattle.fr_files.specs.ClusterFiles.{Tells}
use Rattle.fr_files.specs.declared.error.BenchError.{BenchError}
use Rattle.fr_picture.specs.Dynamics.{IsDynamicText}
use Rattle.fr_picture.specs.Frames.{front_text}
use Rattle.fr_picture.specs.Guards.{AreGuardRows}
use Rattle.fr_picture.specs.Owners.{Adds, AreOwnerTexts}
use Rattle.fr_picture.specs.Ranges.{AreRanges}
use Rattle.fr_schedule.specs.Clusters.{IsCluster}
use Rattle.fr_schedule.specs.Descriptions.{Description}
use Rattle.fr_slots.specs.declared.channel.Channel.TheVariants.{A, B}
use Rattle.fr_svg.specs.Elements.{picture_end}

-- A picture is exactly these parts: the front with its style, heading, segments and names; the elements of the static
-- slots, which name exactly the owners of the sender table; for each channel the dynamic segment, which names exactly
-- the senders of its slots; the ranges of these slots, which name exactly the minislots at which they can open; and the
-- rows of the guardians, which have exactly the open intervals.
pub record IsPicture (d : Description) (cycle : ℕ) (text : List ℕ) : Type 0 where
  pub owners : List ℕ
  pub dynamic_a : List ℕ
  pub dynamic_b : List ℕ
  pub ranges : List ℕ
  pub guards : List ℕ
  pub owners_are : AreOwnerTexts d cycle d.params.static_slots owners
  pub dynamic_on_a : IsDynamicText d cycle A dynamic_a
  pub dynamic_on_b : IsDynamicText d cycle B dynamic_b
  pub ranges_are : AreRanges d cycle ranges
  pub guards_are : AreGuardRows d cycle (length d.plans) guards
  pub text_is : text ≡ front_text d cycle ++ owners ++ dynamic_a ++ dynamic_b ++ ranges ++ guards ++ picture_end

-- a cycle of a cluster has one picture: any two are the same text
abbrev pub AreSamePictures : Type 0
AreSamePictures = (d : Description) (cycle : ℕ) → IsCluster d → cycle < 64 → (text other : List ℕ)
    → IsPicture d cycle text → IsPicture d cycle other → text ≡ other

-- the output of `schedule` for a cluster
abbrev pub HasPicture : ℕ → Description → Option (List ℕ) → Option (List ℕ) → Type 0
HasPicture cycle d old new = Adds (IsPicture d cycle) old new

-- the same as `plan`, with a picture in place of the plan
abbrev pub Draws : ℕ → List ℕ → Option (List ℕ) → Option (List ℕ) → Result (Unit {0}) BenchError → Type 0
Draws cycle = Tells (HasPicture cycle)
