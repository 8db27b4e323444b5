-- The text of a cluster file in its usual form, piece by piece, as the grammar of `toml` reads it. It serves the code
-- alone: `described` (`fr_schedule`) defines the cluster of a text.
use Rattle.std.specs.Prelude.{◌≡◌, ℕ, ◌<◌, ◌==◌, false, List, [], length, codes, Option, Some, None, option_map}
use Rattle.std.specs.Prelude.{Ok}
use Rattle.fr_schedule.specs.Files.{each_of, plan_of}
use Rattle.fr_schedule.specs.TableReading.{values_of}
use Rattle.fr_slots.specs.Parameters.{Parameters}
use Rattle.fr_slots.specs.Plans.{Plan}
use Rattle.toml_parser.specs.Lexical.{skip_blank}
use Rattle.std.specs.Cmp.Lexicographic.{slice_cmp}
use Rattle.std.specs.Ordering.{nat_cmp, match_ordering}
use Rattle.toml.specs.Data.{Data, array, table, Items, no_items, item, Members, no_members, member, get_member}
use Rattle.toml.specs.Data.{same_key}
use Rattle.toml.specs.Parse.{val, items, members, line, lines}
use Rattle.toml.specs.Tables.{Nodes, no_nodes, close, insert, get_node, open_array, Edit, along_header, at_key}
use Rattle.toml.specs.Tables.{Definition, array_table, Document}

-- the depth that is left for the elements of an array that is the value of a pair
abbrev pub inner_depth : ℕ
inner_depth = 79

-- ---- values

-- the members with this one, at its place in the order
abbrev pub insert_member : List ℕ → Data → Members → Members
insert_member key datum no_members = member key datum no_members
insert_member key datum (member l e more) =
    match_ordering (slice_cmp nat_cmp key l) (member key datum (member l e more)) (member l datum more)
    (member l e (insert_member key datum more))

-- a pair was added under a key that wasn't there
pub record IsAdded (key : List ℕ) (datum : Data) (old new : Members) : Type 0 where
  pub free : get_member key old ≡ None
  pub new_is : new ≡ insert_member key datum old

-- an inline table of strings and scalars after its opening brace, at any depth
abbrev pub IsInlineTable : List ℕ → Members → List ℕ → Type 0
IsInlineTable text found rest =
    (depth n : ℕ) → length text < n → members (val depth) n no_nodes text ≡ Some (found, rest)

-- an inline table, string or scalar, wherever a table may stand
abbrev pub IsElement : List ℕ → Data → List ℕ → Type 0
IsElement text found rest = (depth : ℕ) → 0 < depth → val depth text ≡ Some (found, rest)

-- an array after its opening bracket, as the value of a pair
abbrev pub IsArray : List ℕ → Items → List ℕ → Type 0
IsArray text found rest =
    (n : ℕ) → length text < n → items (val inner_depth) n no_items text ≡ Some (found, rest)

-- ---- lines

-- an edit below this header is the same edit of the nodes inside the frame
abbrev pub IsFrame : List (List ℕ) → (Nodes → Nodes) → Type 0
IsFrame section frame =
    (edit : Edit) (nodes : Nodes) → along_header section edit (frame nodes) ≡ option_map frame (edit nodes)

-- reading the text from one document on, as fewer than n expressions, is reading the rest from the other on
pub record Leads (n : ℕ) (from : Document) (text : List ℕ) (to : Document) (rest : List ℕ) : Type 0 where
  pub left : ℕ
  pub room : length rest < left
  pub lines_are : lines n from text ≡ lines left to rest

-- pairs at the front of a section that begins empty, and the text after them
abbrev pub IsSection : List ℕ → Members → List ℕ → Type 0
IsSection text found rest =
    (section : List (List ℕ)) (frame : Nodes → Nodes) → IsFrame section frame → (n : ℕ) → length text < n
    → (nodes : Nodes) × (close nodes ≡ found) × Leads n (frame no_nodes, section) text (frame nodes, section) rest

-- the next line is a header without dots
pub record IsHeader (text name : List ℕ) (what : Definition) (rest : List ℕ) : Type 0 where
  pub some : (length (skip_blank text) == 0) ≡ false
  pub read : line (skip_blank text) ≡ Some ((([], name), what), rest)

-- the table of what was read from the start of the file, and the text after it
abbrev pub IsHead : List ℕ → Members → List ℕ → Type 0
IsHead text found rest =
    (n : ℕ) → length text < n
    → (root : Nodes) × (section : List (List ℕ)) × (close root ≡ found)
    × Leads n (no_nodes, []) text (root, section) rest

-- ---- nodes

abbrev pub node_key : List ℕ
node_key = codes "node"

-- the next node, with its plan
pub record IsNode (params : Parameters) (number : ℕ) (text : List ℕ) (plan : Plan) (rest : List ℕ) : Type 0 where
  pub after : List ℕ
  pub found : Members
  pub header : IsHeader text node_key array_table after
  pub shorter : length after < length text
  pub pairs : IsSection after found rest
  pub plan_is : plan_of params number (table found) ≡ Ok plan

-- the value of the key `node` after these elements
abbrev pub node_value : Items → Option Data
node_value no_items = None
node_value (item datum more) = Some (array (item datum more))

-- the document has these nodes, and otherwise what the root had before them; the next header [[node]] adds an empty one
pub record HasNodes (root : Nodes) (done : Items) (document : Nodes) : Type 0 where
  pub value : get_member node_key (close document) ≡ node_value done
  pub others : (key : List ℕ) → same_key key node_key ≡ false
      → get_member key (close document) ≡ get_member key (close root)
  pub next : at_key node_key array_table document ≡ Some (insert node_key (open_array done no_nodes) root)

-- up to the rest these nodes were read, with their plans
pub record AreReached (params : Parameters) (root : Nodes) (n : ℕ) (from : Document) (text : List ℕ) (plans : List Plan)
    (rest : List ℕ) : Type 0 where
  pub to : Document
  pub done : Items
  pub leads : Leads n from text to rest
  pub nodes : HasNodes root done to.0
  pub plans_are : each_of (plan_of params) 0 (values_of done) ≡ Ok plans

-- the same from any document whose root has no nodes yet
abbrev pub AreUpTo : Parameters → List ℕ → List Plan → List ℕ → Type 0
AreUpTo params text plans rest =
    (root : Nodes) (section : List (List ℕ)) → get_node node_key root ≡ None → (n : ℕ) → length text < n
    → AreReached params root n (root, section) text plans rest
