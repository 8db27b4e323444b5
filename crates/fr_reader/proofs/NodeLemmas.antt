-- The pairs and tables before the nodes of a file, and the nodes, one after another.
use Rattle.std.proofs.Common.{◌≡◌, ℕ, suc, ◌+◌, ◌<◌, ◌≤◌, ◌==◌, false, List, [], ◌∷◌, ◌++◌, length, codes, Option, Some}
use Rattle.std.proofs.Common.{None, option_map, option_and_then, Result, Ok, le-leb, refl, sym, ap, subst, ◌∙◌, arith}
use Rattle.std.specs.Prelude.{ok_or}
use Rattle.fr_params.specs.Table.{parameters_in}
use Rattle.fr_reader.proofs.LineLemmas.{root_frame, table_frame, array_frame, header_defined, same_place, one_line, joined}
use Rattle.fr_reader.proofs.TableLemmas.{get_member-close, get_member-other, no_node, close-insert}
use Rattle.fr_reader.specs.UsualText.{IsAdded, insert_member, IsHeader, IsSection, IsHead, IsNode, node_key, node_value}
use Rattle.fr_reader.specs.UsualText.{AreReached, AreUpTo}
use Rattle.fr_schedule.proofs.FileLemmas.{each_of-length, plans_read}
use Rattle.fr_schedule.proofs.StepLemmas.{then_ok, same_Ok}
use Rattle.fr_schedule.specs.declared.error.ConfigError.{ConfigError}
use Rattle.fr_schedule.specs.declared.error.ConfigError.TheVariants.{BadGuard}
use Rattle.fr_schedule.specs.Files.{each_of, plan_of, described, described_by, or_no_toml, held, members_or_none}
use Rattle.fr_schedule.specs.Files.{params_in, guard_in, guard_word, nodes_in, some_nodes}
use Rattle.fr_schedule.specs.TableReading.{values_of, array_in}
use Rattle.fr_slots.specs.declared.channel.Channels.{Channels}
use Rattle.fr_slots.specs.Parameters.{Parameters}
use Rattle.fr_slots.specs.Plans.{Plan}
use Rattle.toml_parser.specs.Lexical.{first, skip_blank}
use Rattle.toml.proofs.NodeLaws.{get_node-insert, replace-insert}
use Rattle.toml.proofs.Turns.{at_key_new, at_key_ok, document_some, lines_end}
use Rattle.toml.specs.Data.{Data, array, table, Items, no_items, item, Members, as_table, push_item, get_member}
use Rattle.toml.specs.Parse.{lines, skip_bom, parse_document}
use Rattle.toml.specs.Tables.{Node, Nodes, no_nodes, close, close_node, insert, open_table, open_array, Document}
use Rattle.toml.specs.Tables.{header as headed, std_table, array_table}

-- ---- values in a row

pub values_of-push : (done : Items) (datum : Data) → values_of (push_item done datum) ≡ values_of done ++ datum ∷ []
values_of-push no_items datum = refl
values_of-push (item one more) datum = ap (λ values. one ∷ values) (values_of-push more datum)

node_value-push : (done : Items) (datum : Data) → node_value (push_item done datum) ≡ Some (array (push_item done datum))
node_value-push no_items datum = refl
node_value-push (item one more) datum = refl

module _ {X A : Type 0} (read : ℕ → X → Result A ConfigError) where
  -- one more value is read after those that were
  pub each_of-last : (n : ℕ) (xs : List X) (all : List A) (x : X) (one : A) → each_of read n xs ≡ Ok all
      → read (n + length xs) x ≡ Ok one → each_of read n (xs ++ x ∷ []) ≡ Ok (all ++ one ∷ [])
  unfolding each_of
  each_of-last n [] all x one are is =
      let none : [] ≡ all = same_Ok [] all are in
      let here : read n x ≡ Ok one = subst (λ m. read m x ≡ Ok one) (omega arith) is in
      rw here (ap (λ (before : List A). let r : Result (List A) ConfigError = Ok (before ++ one ∷ []) in r) none)
  each_of-last n (y ∷ xs) all x one are is =
      let (first_one, is_first, rest) = then_ok (read n y) _ all are in
      let (more, is_more, made) = then_ok (each_of read (n + 1) xs) _ all rest in
      let next : read ((n + 1) + length xs) x ≡ Ok one =
      subst (λ m. read m x ≡ Ok one) (omega arith) is in
      let after = each_of-last (n + 1) xs more x one is_more next in
      rw (is_first, after) (ap (λ (before : List A). let r : Result (List A) ConfigError = Ok (before ++ one ∷ []) in r)
      (same_Ok (first_one ∷ more) all made))

-- an array of 1 to 16 elements
some_values : (done : Items) → 1 ≤ length (values_of done) → length (values_of done) ≤ 16
    → option_and_then some_nodes (option_and_then array_in (node_value done)) ≡ Some (values_of done)
unfolding array_in
some_values no_items some few = absurd (omega arith)
some_values (item one more) some few =
    let values = values_of (item one more) in
    rw (le-leb 1 (length values) some, le-leb (length values) 16 few) refl

-- ---- nodes

module _ (params : Parameters) where
  -- no node yet
  pub no_plans : (text : List ℕ) → AreUpTo params text [] text
  unfolding each_of
  no_plans text root section free n room = record {
    to = (root, section);
    done = no_items;
    leads = same_place n (root, section) text room;
    nodes = record {
      value = get_member-close node_key root ∙ ap (option_map close_node) free;
      others = λ key other. refl;
      next = at_key_new node_key array_table root free;
    };
    plans_are = refl;
  }

  -- one more node
  one_reached : (root : Nodes) (n : ℕ) (from : Document) (text here rest : List ℕ) (plans : List Plan) (plan : Plan)
      → AreReached params root n from text plans here → IsNode params (length plans) here plan rest
      → AreReached params root n from text (plans ++ plan ∷ []) rest
  one_reached root n from text here rest plans plan so_far next =
      let done = so_far.done in
      let frame : Nodes → Nodes = λ nodes. insert node_key (open_array done nodes) root in
      let defined = header_defined so_far.to.0 (frame no_nodes) so_far.to.1 node_key array_table (λ d is. cc is)
      so_far.nodes.next in
      let begun = one_line n from so_far.to (frame no_nodes, node_key ∷ []) text here next.after _ so_far.leads
      next.header.some next.header.read defined next.shorter in
      let (nodes, same, more) = next.pairs (node_key ∷ []) frame (array_frame node_key done root) begun.left begun.room in
      let x : Node = open_array done nodes in
      let value : Data = table (close nodes) in
      let y : Node = open_array (push_item done value) no_nodes in
      let there = get_node-insert node_key x root in
      let as_many = each_of-length (plan_of params) 0 (values_of done) plans so_far.plans_are in
      let counted : length (values_of done) ≡ 0 + length (values_of done) = omega arith in
      let plan_is : plan_of params (0 + length (values_of done)) value ≡ Ok plan =
      subst (λ m. plan_of params m value ≡ Ok plan) (as_many ∙ counted)
      (subst (λ found. plan_of params (length plans) (table found) ≡ Ok plan) (sym same) next.plan_is) in
      record {
        to = (frame nodes, node_key ∷ []);
        done = push_item done value;
        leads = joined n from (frame no_nodes, node_key ∷ []) (frame nodes, node_key ∷ []) text next.after rest begun more;
        nodes = record {
          value = get_member-close node_key (frame nodes) ∙ ap (option_map close_node) there
              ∙ sym (node_value-push done value);
          others = λ key other. get_member-other key node_key x root other;
          next = at_key_ok node_key array_table (frame nodes) (insert node_key y root) x y there refl
              (sym (replace-insert node_key x y root));
        };
        plans_are = ap (each_of (plan_of params) 0) (values_of-push done value)
            ∙ each_of-last (plan_of params) 0 (values_of done) plans value plan so_far.plans_are plan_is;
      }

  pub one_more : (text here rest : List ℕ) (plans : List Plan) (plan : Plan) (number : ℕ) → number ≡ length plans
      → AreUpTo params text plans here → IsNode params number here plan rest
      → AreUpTo params text (plans ++ plan ∷ []) rest
  one_more text here rest plans plan number same so_far next root section free n room =
      one_reached root n (root, section) text here rest plans plan (so_far root section free n room)
      (subst (λ m. IsNode params m here plan rest) same next)

-- ---- the head

pub head_begun : (text rest : List ℕ) (found : Members) → IsSection text found rest → IsHead text found rest
head_begun text rest found read n room =
    let (nodes, same, leads) = read [] (λ ns. ns) root_frame n room in
    (nodes, [], same, leads)

-- one more table
pub head_more : (text here after rest name : List ℕ) (old found new : Members) → IsHead text old here
    → IsHeader here name std_table after → length after < length here → IsSection after found rest
    → IsAdded name (table found) old new → IsHead text new rest
head_more text here after rest name old found new so_far header shorter below added n room =
    let (root, section, same, leads) = so_far n room in
    let free = no_node name root (ap (get_member name) same ∙ added.free) in
    let frame : Nodes → Nodes = λ ns. insert name (open_table headed ns) root in
    let defined = header_defined root (frame no_nodes) section name std_table (λ d is. cc is)
    (at_key_new name std_table root free) in
    let begun = one_line n (no_nodes, []) (root, section) (frame no_nodes, name ∷ []) text here after _ leads header.some
    header.read defined shorter in
    let (nodes, same_below, more) = below (name ∷ []) frame (table_frame name root) begun.left begun.room in (
      frame nodes,
      name ∷ [],
      close-insert name (open_table headed nodes) root
          ∙ ap (λ (ms : Members). insert_member name (table ms) (close root)) same_below
          ∙ ap (insert_member name (table found)) same
          ∙ sym added.new_is,
      joined n (no_nodes, []) (frame no_nodes, name ∷ []) (frame nodes, name ∷ []) text after rest begun more,
    )

-- ---- the file

module _ (text nodes_text rest : List ℕ) (root : Members) (params : Parameters) (guard : Option Channels)
    (plans : List Plan) where
  pub usual_described : (first text == 0xEF) ≡ false → IsHead text root nodes_text
      → AreUpTo params nodes_text plans rest → length (skip_blank rest) ≡ 0 → get_member node_key root ≡ None
      → params_in root ≡ Ok params → guard_in root ≡ Ok guard → 1 ≤ length plans → length plans ≤ 16
      → described text ≡ described_by params guard plans
  unfolding skip_bom params_in guard_in nodes_in
  usual_described no_mark head nodes ends no_node_yet params_are guard_is some few =
      let n = suc (length text) in
      let start : Document = (no_nodes, []) in
      let (nodes0, section, same, leads0) = head n (omega arith) in
      let free = no_node node_key nodes0 (ap (get_member node_key) same ∙ no_node_yet) in
      let reached = nodes nodes0 section free leads0.left leads0.room in
      let leads = joined n start (nodes0, section) reached.to text nodes_text rest leads0 reached.leads in
      let room = leads.room in
      let ended : lines n start text ≡ Some reached.to =
      leads.lines_are ∙ lines_end leads.left reached.to rest (omega arith) ends in
      let bom : skip_bom text ≡ text = rw no_mark refl in
      let document : Members = close reached.to.0 in
      let parsed : parse_document text ≡ Some document =
      document_some text reached.to (ap (lines n start) bom ∙ ended) in
      let has_params : get_member (codes "params") document ≡ get_member (codes "params") root =
      reached.nodes.others (codes "params") refl ∙ ap (get_member (codes "params")) same in
      let has_guard : get_member (codes "guard") document ≡ get_member (codes "guard") root =
      reached.nodes.others (codes "guard") refl ∙ ap (get_member (codes "guard")) same in
      let params_in_it : params_in document ≡ Ok params =
      ap (λ o. held (parameters_in (members_or_none (option_and_then as_table o)))) has_params ∙ params_are in
      let guard_in_it : guard_in document ≡ Ok guard =
      ap (λ o. ok_or (guard_word o) BadGuard) has_guard ∙ guard_is in
      let as_many = each_of-length (plan_of params) 0 (values_of reached.done) plans reached.plans_are in
      let nodes_in_it : nodes_in document ≡ Some (values_of reached.done) =
      ap (λ o. option_and_then some_nodes (option_and_then array_in o)) reached.nodes.value
      ∙ some_values reached.done (subst (λ m. 1 ≤ m) as_many some) (subst (λ m. m ≤ 16) as_many few) in
      ap or_no_toml parsed
      ∙ plans_read document params params_in_it guard guard_in_it (values_of reached.done) nodes_in_it plans
      reached.plans_are
