-- The lines of a document, a turn at a time.
use Rattle.std.proofs.Common.{◌≡◌, ℕ, ◌-◌, ◌<◌, ◌==◌, true, false, List, [], ◌∷◌, length, Option}
use Rattle.std.proofs.Common.{Some, None, option_map, drop, slice_index, refl, ap, ◌∙◌, arith}
use Rattle.std.proofs.lemmas.Bool.{false≢true}
use Rattle.std.proofs.lemmas.Bool.Decides.{nat_tests}
use Rattle.fr_reader.specs.UsualText.{IsFrame, Leads}
use Rattle.toml_parser.specs.Lexical.{first, skip_ws, skip_blank}
use Rattle.toml_parser.specs.Strings.{recursion_limit}
use Rattle.toml.proofs.NodeLaws.{along_found, get_node-insert, replace-insert}
use Rattle.toml.proofs.Turns.{keyval_ok, lines_more}
use Rattle.toml.specs.Data.{Data, Items}
use Rattle.toml.specs.Parse.{val, key_equals, expression, header_key, line, ends_line}
use Rattle.toml.specs.Tables.{Node, Nodes, header, open_table, open_array, insert, Edit, header_node, along_header}
use Rattle.toml.specs.Tables.{Definition, key_value, std_table, array_table, Document, define, put, at_key}

-- ---- frames

kept : (o : Option Nodes) → o ≡ option_map (λ x. x) o
kept None = refl
kept (Some x) = refl

-- the pairs before the first header
pub root_frame : IsFrame [] (λ nodes. nodes)
unfolding along_header
root_frame edit nodes = kept (edit nodes)

replaced : (key : List ℕ) (old : Node) (root : Nodes) (wrap : Nodes → Node) (o : Option Nodes)
    → option_map (λ new. Rattle.toml.specs.Tables.replace key new (insert key old root)) (option_map wrap o)
    ≡ option_map (λ nodes. insert key (wrap nodes) root) o
replaced key old root wrap None = refl
replaced key old root wrap (Some y) = ap (λ (n : Nodes). Some n) (replace-insert key old (wrap y) root)

-- a table below its header
pub table_frame : (key : List ℕ) (root : Nodes) → IsFrame (key ∷ [])
    (λ nodes. insert key (open_table header nodes) root)
unfolding along_header
table_frame key root edit nodes =
    along_found key [] edit (insert key (open_table header nodes) root) (open_table header nodes)
    (get_node-insert key (open_table header nodes) root)
    ∙ replaced key (open_table header nodes) root (open_table header) (edit nodes)

-- the last element of an array of tables
pub array_frame : (key : List ℕ) (done : Items) (root : Nodes) → IsFrame (key ∷ [])
    (λ nodes. insert key (open_array done nodes) root)
unfolding along_header
array_frame key done root edit nodes =
    along_found key [] edit (insert key (open_array done nodes) root) (open_array done nodes)
    (get_node-insert key (open_array done nodes) root)
    ∙ replaced key (open_array done nodes) root (open_array done) (edit nodes)

-- ---- pairs

-- a line with a pair
pub pair_line : (text : List ℕ) (key : List ℕ) (datum : Data) (at_value after : List ℕ) → (first text == 91) ≡ false
    → key_equals text ≡ Some (([], key), at_value) → val recursion_limit at_value ≡ Some (datum, after)
    → ends_line (skip_ws after) ≡ true → line text ≡ Some ((([], key), key_value datum), after)
unfolding line expression
pair_line text key datum at_value after other key_is value_is ends =
    let read = keyval_ok (val recursion_limit) text at_value after ([], key) datum key_is value_is in
    rw (other, read, ends) refl

pub pair_defined : (section : List (List ℕ)) (frame : Nodes → Nodes) → IsFrame section frame
    → (key : List ℕ) (datum : Data) (nodes more : Nodes) → put ([], key) datum nodes ≡ Some more
    → define (frame nodes, section) (([], key), key_value datum) ≡ Some (frame more, section)
unfolding define
pair_defined section frame framed key datum nodes more added =
    rw (framed (put ([], key) datum) nodes, added) refl

-- ---- headers

pub header_defined : (root new : Nodes) (section : List (List ℕ)) (key : List ℕ) (what : Definition)
    → ((d : Data) → what ≡ key_value d → ⊥) → at_key key what root ≡ Some new
    → define (root, section) (([], key), what) ≡ Some (new, key ∷ [])
unfolding define along_header
header_defined root new section key (key_value d) not_pair made = absurd (not_pair d refl)
header_defined root new section key std_table not_pair made = rw made refl
header_defined root new section key array_table not_pair made = rw made refl

-- ---- what is left

pub same_place : (n : ℕ) (doc : Document) (text : List ℕ) → length text < n → Leads n doc text doc text
same_place n doc text room = record { left = n; room = room; lines_are = refl }

-- one more line
pub one_line : (n : ℕ) (from doc next : Document) (text here after : List ℕ) (e : _) → Leads n from text doc here
    → (length (skip_blank here) == 0) ≡ false → line (skip_blank here) ≡ Some (e, after)
    → define doc e ≡ Some next → length after < length here → Leads n from text next after
one_line n from doc next text here after e so_far some read defined shorter =
    let left = so_far.left in
    let room = so_far.room in
    record {
      left = left - 1;
      room = omega arith;
      lines_are = so_far.lines_are ∙ lines_more left doc next here e after (omega arith) some read defined;
    }

-- a part after a part
pub joined : (n : ℕ) (from doc to : Document) (text here rest : List ℕ) → (so_far : Leads n from text doc here)
    → Leads so_far.left doc here to rest → Leads n from text to rest
joined n from doc to text here rest so_far more =
    record { left = more.left; room = more.room; lines_are = so_far.lines_are ∙ more.lines_are }

-- ---- lines of headers

pub some_text : (text : List ℕ) → (first text == 91) ≡ true → (length text == 0) ≡ false
some_text [] is = absurd (false≢true is)
some_text (c ∷ text) is = grind (arith, nat_tests)

pub table_line : (text name rest : List ℕ) → (first text == 91) ≡ true → (slice_index text 1 == 91) ≡ false
    → header_key (drop 1 text) ≡ Some (([], name), rest) → ends_line (skip_ws rest) ≡ true
    → line text ≡ Some ((([], name), std_table), rest)
unfolding line expression
table_line text name rest opens other key_is ends = rw (opens, other, key_is, ends) refl

pub array_line : (text name rest : List ℕ) → (first text == 91) ≡ true → (slice_index text 1 == 91) ≡ true
    → header_key (drop 2 text) ≡ Some (([], name), rest) → (first rest == 93) ≡ true
    → ends_line (skip_ws (drop 1 rest)) ≡ true → line text ≡ Some ((([], name), array_table), drop 1 rest)
unfolding line expression
array_line text name rest opens again key_is closes ends = rw (opens, again, key_is, closes, ends) refl
