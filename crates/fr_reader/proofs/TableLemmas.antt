-- The nodes of the grammar, and the members that they stand for.
use Rattle.std.proofs.Common.{◌≡◌, ℕ, false, cond, List, [], ◌∷◌, Option, Some, None, option_map, String, Global}
use Rattle.std.proofs.Common.{Ordering, Less, Equal, Greater, string_bytes, nat_cmp, is_eq, refl, sym, ap, subst, ◌∙◌}
use Rattle.std.proofs.Common.{inl, inr, ◌⊎◌}
use Rattle.std.proofs.lemmas.Map.Text.{is_eq-slice_cmp}
use Rattle.std.proofs.lemmas.Option.{none-some}
use Rattle.std.proofs.lemmas.Slice.Eq.{bytes_eq-Decides}
use Rattle.std.specs.BTreeMap.{insert_entry}
use Rattle.std.specs.Cmp.Lexicographic.{slice_cmp}
use Rattle.std.specs.Ordering.{match_ordering}
use Rattle.std.specs.String.{string_cmp}
use Rattle.fr_reader.specs.UsualText.{IsAdded, insert_member}
use Rattle.toml.proofs.Turns.{at_key_new}
use Rattle.toml.proofs.Views.{Entry}
use Rattle.toml.specs.Data.{Data, Members, get_member, same_key}
use Rattle.toml.specs.Tables.{Node, Nodes, no_nodes, node, value, close, close_node, get_node, insert, along_dots}
use Rattle.toml.specs.Tables.{key_value, put}
use Rattle.toml.specs.View.{view, members_view}

found_by : (o : Ordering) (a b : Option Data) (c d : Option Node) → a ≡ option_map close_node c
    → b ≡ option_map close_node d → match_ordering o a b a ≡ option_map close_node (cond (is_eq o) d c)
found_by Less a b c d first second = first
found_by Equal a b c d first second = second
found_by Greater a b c d first second = first

-- the member under a key stands for the node there
pub get_member-close : (key : List ℕ) (nodes : Nodes) → get_member key (close nodes)
    ≡ option_map close_node (get_node key nodes)
get_member-close key no_nodes = refl
get_member-close key (node l x more) =
    found_by (slice_cmp nat_cmp key l) (get_member key (close more)) (Some (close_node x)) (get_node key more) (Some x)
    (get_member-close key more) refl

none_of : (o : Option Node) → option_map close_node o ≡ None → o ≡ None
none_of None none = refl
none_of (Some x) none = absurd (none-some (close_node x) (sym none))

-- no member, so no node
pub no_node : (key : List ℕ) (nodes : Nodes) → get_member key (close nodes) ≡ None → get_node key nodes ≡ None
no_node key nodes none = none_of (get_node key nodes) (sym (get_member-close key nodes) ∙ none)

-- ---- a new member

match_close : (o : Ordering) (a b c : Nodes) → close (match_ordering o a b c)
    ≡ match_ordering o (close a) (close b) (close c)
match_close Less a b c = refl
match_close Equal a b c = refl
match_close Greater a b c = refl

pub close-insert : (key : List ℕ) (x : Node) (nodes : Nodes) → close (insert key x nodes)
    ≡ insert_member key (close_node x) (close nodes)
close-insert key x no_nodes = refl
close-insert key x (node l y more) =
    match_close (slice_cmp nat_cmp key l) _ _ _ ∙ rw (close-insert key x more) refl

match_members : (o : Ordering) (a b c : List Entry) → members_view (match_ordering o a b c)
    ≡ match_ordering o (members_view a) (members_view b) (members_view c)
match_members Less a b c = refl
match_members Equal a b c = refl
match_members Greater a b c = refl

pub view-insert : (entries : List Entry) (key : String Global) (v : _) → members_view (insert_entry string_cmp entries key v)
    ≡ insert_member (string_bytes key) (view v) (members_view entries)
view-insert [] key v = refl
view-insert (e ∷ entries) key v =
    match_members (string_cmp key e.0) _ _ _ ∙ rw (view-insert entries key v) refl

-- a pair with a key that isn't there, in nodes that stand for the members
pub pair_put : (key : List ℕ) (datum : Data) (old new : Members) → IsAdded key datum old new
    → (nodes : Nodes) → close nodes ≡ old
    → (more : Nodes) × (put ([], key) datum nodes ≡ Some more) × (close more ≡ new)
unfolding along_dots
pair_put key datum old new added nodes same =
    let free = no_node key nodes (ap (get_member key) same ∙ added.free) in (
      insert key (value datum) nodes,
      at_key_new key (key_value datum) nodes free,
      close-insert key (value datum) nodes ∙ ap (insert_member key datum) same ∙ sym added.new_is,
    )

-- ---- another key

same_bytes : (k l : List ℕ) → slice_cmp nat_cmp k l ≡ Equal → k ≡ l
same_bytes k l tie = (bytes_eq-Decides k l).0 (sym (is_eq-slice_cmp k l) ∙ ap is_eq tie)

cases_ordering : (o : Ordering) → (o ≡ Less) ⊎ ((o ≡ Equal) ⊎ (o ≡ Greater))
cases_ordering Less = inl refl
cases_ordering Equal = inr (inl refl)
cases_ordering Greater = inr (inr refl)

-- an insert under one key changes nothing under another
pub get_node-other : (key l : List ℕ) (x : Node) (nodes : Nodes) → same_key key l ≡ false
    → get_node key (insert l x nodes) ≡ get_node key nodes
get_node-other key l x no_nodes other = rw other refl
get_node-other key l x (node m y more) other =
    elim (cases_ordering (slice_cmp nat_cmp l m)) [
      | inl less ↦ rw (less, other) refl
      | inr rest ↦ elim rest [
        | inl tie ↦
            let other_too : same_key key m ≡ false =
            subst (λ n. same_key key n ≡ false) (same_bytes l m tie) other in
            rw (tie, other_too) refl
        | inr greater ↦ rw greater (ap (λ o. cond (same_key key m) (Some y) o) (get_node-other key l x more other))
      ]
    ]

pub get_member-other : (key l : List ℕ) (x : Node) (nodes : Nodes) → same_key key l ≡ false
    → get_member key (close (insert l x nodes)) ≡ get_member key (close nodes)
get_member-other key l x nodes other =
    get_member-close key (insert l x nodes)
    ∙ ap (option_map close_node) (get_node-other key l x nodes other)
    ∙ sym (get_member-close key nodes)
