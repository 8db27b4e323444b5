-- The writing of a list of lines, one line more.
use Rattle.std.proofs.Common.{◌≡◌, ℕ, zero, suc, ◌+◌, ◌<◌, ◌≤◌, Bool, true, false, List, [], ◌∷◌, ◌++◌, length, take}
use Rattle.std.proofs.Common.{drop}
use Rattle.std.proofs.Common.{get_or, Option, refl, sym, ap, subst, ◌∙◌, append-nil, append_assoc, arith, cond}
use Rattle.std.specs.Fmt.{decimal}
use Rattle.std.specs.Prelude.{Result, Ok, Err, OnOk}
use Rattle.std.specs.Io.KnownBytes.{Appends}
use Rattle.std.specs.List.{flat_map}
use Rattle.std.proofs.KnownBytes.{Appends-nil, Appends-trans}
use Rattle.std.proofs.lemmas.Grind.{flat_map-append}
use Rattle.std.proofs.lemmas.List.{take_more, drop_more}
use Rattle.fr_slots.specs.Parameters.{Parameters}
use Rattle.fr_slots.specs.Plans.{Plan}
use Rattle.fr_slots.specs.declared.channel.Channel.{Channel}
use Rattle.fr_slots.specs.declared.channel.Channel.TheVariants.{A, B}
use Rattle.fr_judging.specs.Judging.{State}
use Rattle.fr_monitoring.specs.SummaryText.{nodes_from, sends_in, comma_if, dash_unless, slots_text, slot_text}

module _ {X : Type 0} (line : X → List ℕ) where
  lines-more : (xs : List X) (i : ℕ) (x : X) → i < length xs → x ≡ get_or xs i x
      → flat_map line (take (i + 1) xs) ≡ flat_map line (take i xs) ++ line x
  lines-more xs i x lt is =
      ap (flat_map line) (take_more xs i x lt ∙ ap (λ (y : X). take i xs ++ y ∷ []) (sym is))
      ∙ flat_map-append line (take i xs) (x ∷ [])
      ∙ ap (λ (t : List ℕ). flat_map line (take i xs) ++ t) (append-nil (line x))

  pub written-more : (xs : List X) (i : ℕ) (x : X) (old mid new : Option (List ℕ)) → i < length xs → x ≡ get_or xs i x
      → Appends old mid (flat_map line (take i xs)) → Appends mid new (line x)
      → Appends old new (flat_map line (take (i + 1) xs))
  written-more xs i x old mid new lt is before one =
      subst (λ (t : List ℕ). Appends old new t) (sym (lines-more xs i x lt is))
      (Appends-trans old mid new (flat_map line (take i xs)) (line x) before one)

-- the last step appends its text to the text of the steps before it
pub appends-last : {A E : Type 0} (r : Result A E) (old mid new : Option (List ℕ)) (front back : List ℕ)
    → Appends old mid front → OnOk r (Appends mid new back) → OnOk r (Appends old new (front ++ back))
appends-last (Ok x) old mid new front back before last = Appends-trans old mid new front back before last
appends-last (Err e) old mid new front back before last = tt

-- ---- slots

pub slots_none : (s : State) (w : Option (List ℕ)) → Appends w w (slots_text s 0)
unfolding slots_text
slots_none s w = Appends-nil w

pub slots_more : (s : State) (n m : ℕ) (old mid on_a new : Option (List ℕ)) → m ≡ n + 1
    → Appends old mid (slots_text s n) → Appends mid on_a (slot_text s m A) → Appends on_a new (slot_text s m B)
    → Appends old new (slots_text s (n + 1))
unfolding slots_text
slots_more s n m old mid on_a new m_is before a b =
    let here : suc n ≡ m = omega arith in
    let both = Appends-trans mid on_a new (slot_text s m A) (slot_text s m B) a b in
    let all = Appends-trans old mid new (slots_text s n) (slot_text s m A ++ slot_text s m B) before both in
    let text : slots_text s n ++ (slot_text s m A ++ slot_text s m B) ≡ slots_text s (n + 1) =
    ap (λ (k : ℕ). slots_text s n ++ (slot_text s k A ++ slot_text s k B)) (sym here)
    ∙ ap (slots_text s) (let e : suc n ≡ n + 1 = omega arith in e) in
    subst (λ (t : List ℕ). Appends old new t) text all

-- ---- nodes

abbrev one_node : Parameters → ℕ → Channel → Bool → ℕ → List Plan → Bool → List ℕ
one_node p slot channel some node plans sends =
    cond sends ((comma_if some ++ decimal node) ++ nodes_from p slot channel true (node + 1) plans)
    (nodes_from p slot channel some (node + 1) plans)

node_here : (p : Parameters) (slot : ℕ) (channel : Channel) (some : Bool) (node : ℕ) (plans : List Plan) (plan : Plan)
    → node < length plans → plan ≡ get_or plans node plan
    → nodes_from p slot channel some node (drop node plans)
    ≡ one_node p slot channel some node (drop (node + 1) plans) (sends_in p slot channel plan)
unfolding nodes_from
node_here p slot channel some node plans plan lt is =
    ap (nodes_from p slot channel some node) (drop_more plans node plan lt
    ∙ ap (λ (x : Plan). x ∷ drop (node + 1) plans) (sym is))

pub node_sends : (p : Parameters) (slot : ℕ) (channel : Channel) (some : Bool) (node : ℕ) (plans : List Plan)
    (plan : Plan) (text all : List ℕ) → node < length plans → plan ≡ get_or plans node plan
    → sends_in p slot channel plan ≡ true
    → text ++ nodes_from p slot channel some node (drop node plans) ≡ all
    → (text ++ (comma_if some ++ decimal node)) ++ nodes_from p slot channel true (node + 1) (drop (node + 1) plans)
    ≡ all
node_sends p slot channel some node plans plan text all lt is sends whole =
    append_assoc text (comma_if some ++ decimal node)
    (nodes_from p slot channel true (node + 1) (drop (node + 1) plans))
    ∙ ap (λ (t : List ℕ). text ++ t) (sym (node_here p slot channel some node plans plan lt is
    ∙ ap (one_node p slot channel some node (drop (node + 1) plans)) sends))
    ∙ whole

pub node_silent : (p : Parameters) (slot : ℕ) (channel : Channel) (some : Bool) (node : ℕ) (plans : List Plan)
    (plan : Plan) (text all : List ℕ) → node < length plans → plan ≡ get_or plans node plan
    → sends_in p slot channel plan ≡ false
    → text ++ nodes_from p slot channel some node (drop node plans) ≡ all
    → text ++ nodes_from p slot channel some (node + 1) (drop (node + 1) plans) ≡ all
node_silent p slot channel some node plans plan text all lt is silent whole =
    ap (λ (t : List ℕ). text ++ t) (sym (node_here p slot channel some node plans plan lt is
    ∙ ap (one_node p slot channel some node (drop (node + 1) plans)) silent))
    ∙ whole

pub nodes_end : (p : Parameters) (slot : ℕ) (channel : Channel) (some : Bool) (node : ℕ) (plans : List Plan)
    → length plans ≤ node → nodes_from p slot channel some node (drop node plans) ≡ dash_unless some
unfolding nodes_from
nodes_end p slot channel some node plans le =
    ap (nodes_from p slot channel some node) (drop_all node plans le)
  where
    drop_all : (n : ℕ) (xs : List Plan) → length xs ≤ n → drop n xs ≡ []
    drop_all zero [] le = refl
    drop_all (suc n) [] le = refl
    drop_all zero (x ∷ xs) le = absurd (omega arith)
    drop_all (suc n) (x ∷ xs) le = drop_all n xs (omega arith)
