-- A property of each transmission that a station can give holds for all transmissions in a window.
use Rattle.std.proofs.Common.{◌≡◌, ◌<◌, ◌≤◌, ℕ, ◌+◌, Bool, true, false, cond, List, [], ◌∷◌, ◌++◌, length}
use Rattle.std.proofs.Common.{Option, Some, None, refl, arith}
use Rattle.std.specs.Prelude.{◌==◌}
use Rattle.std.specs.List.{list_all}
use Rattle.arrayvec.specs.ArrayVec.{ArrayVec}
use Rattle.fr_bus.specs.declared.outcome.Sent.{Sent}
use Rattle.fr_bus.specs.declared.station.Side.{Side}
use Rattle.fr_bus.specs.Stations.{Station}
use Rattle.fr_bus.specs.Outcome.{fate_of, transmission, sent_in, sent_of, sent_from}
use Rattle.fr_core.proofs.CaseLemmas.{both, both_first, both_rest}
use Rattle.fr_guardian.specs.Guarding.{passes}
use Rattle.fr_schedule.specs.Descriptions.{Description}
use Rattle.fr_slots.specs.declared.channel.Channel.{Channel}
use Rattle.fr_slots.specs.declared.channel.Channel.TheVariants.{A, B}
use Rattle.fr_slots.specs.Windows.{Opportunity, slot_of}

all-append : {X : Type 0} (p : X → Bool) (xs ys : List X) → list_all p xs ≡ true → list_all p ys ≡ true
    → list_all p (xs ++ ys) ≡ true
all-append p [] ys e f = f
all-append p (x ∷ xs) ys e f =
    both (p x) (list_all p (xs ++ ys)) (both_first (p x) (list_all p xs) e)
    (all-append p xs ys (both_rest (p x) (list_all p xs) e) f)

unless : {X : Type 0} (p : X → Bool) (none : Bool) (x : X) → p x ≡ true → list_all p (cond none [] (x ∷ [])) ≡ true
unless p true x e = refl
unless p false x e = both (p x) true e refl

-- a transmission of the node, with the fate that its guardian gives
abbrev pub fated : Description → Opportunity → ℕ → Channel → Bool → Bool → ArrayVec ℕ → Sent
fated d w node channel babble muted bytes =
    record {
      node = node;
      channel = channel;
      babble = babble;
      bytes = bytes;
      fate =
          fate_of muted (passes d node w channel);
    }

module _ (d : Description) (w : Opportunity) (p : Sent → Bool) (nodes : ℕ)
    (each : (node : ℕ) (channel : Channel) (babble muted : Bool) (bytes : ArrayVec ℕ) → node < nodes
    → p (fated d w node channel babble muted bytes) ≡ true) where
  of_one : (node : ℕ) (channel : Channel) (babble muted : Bool) (bytes : Option (ArrayVec ℕ)) → node < nodes
      → list_all p (transmission node channel babble (fate_of muted (passes d node w channel)) bytes) ≡ true
  of_one node channel babble muted None within = refl
  of_one node channel babble muted (Some bytes) within =
      unless p (length bytes.items == 0) (fated d w node channel babble muted bytes)
      (each node channel babble muted bytes within)

  of_side : (node : ℕ) (channel : Channel) (side : Side) (slot : Option ℕ) → node < nodes
      → list_all p (sent_in d w node channel side slot) ≡ true
  of_side node channel side None within = refl
  of_side node channel side (Some slot) within =
      all-append p (transmission node channel false (fate_of side.mute (passes d node w channel)) side.offer)
      (transmission node channel true (fate_of false (passes d node w channel)) side.babble)
      (of_one node channel false side.mute side.offer within) (of_one node channel true false side.babble within)

  pub of_all : (node : ℕ) (ss : List Station) → node + length ss ≤ nodes → list_all p (sent_from d w node ss) ≡ true
  of_all node [] few = refl
  of_all node (s ∷ ss) few =
      let within : node < nodes = omega (arith, few) in
      all-append p (sent_of d w node s) (sent_from d w (node + 1) ss)
      (all-append p (sent_in d w node A s.a (slot_of w A)) (sent_in d w node B s.b (slot_of w B))
      (of_side node A s.a (slot_of w A) within) (of_side node B s.b (slot_of w B) within))
      (of_all (node + 1) ss (omega (arith, few)))
