use Rattle.std.proofs.Common.{◌≡◌, ◌-◌, ◌/◌, ◌++◌, length, take, drop, rules, sym, ap, refl, ◌∙◌, arith, true}
use Rattle.std.proofs.lemmas.List.{length-drop, length-take-le, take_at, take_rest}
use Rattle.std.proofs.lemmas.Slice.Eq.{bytes_eq-Decides}
use Rattle.std.specs.Str.{bytes_eq}
use Rattle.hex.specs.Hex.{encode_lower}
use Rattle.fr_text.proofs.TwinLemmas.{twin_counts, twin_read}
use Rattle.fr_text.proofs.hexes.twins_into.Goals as goal

pub slice_bounds-append-end : goal.slice_bounds-append-end
slice_bounds-append-end g c =
    let read = sym (rw c.if-not-bytes_into.false at c.bytes_into.ensures) in
    let counts = twin_counts g.row.N c.args.first_word.now _ read c.if-first_word-lt-SHORTEST_TWIN.false in
    rw c.as_slice.ensures.value (sym (length-take-le _ _ (omega (arith, counts.0))))

pub append-requires-2 : goal.append-requires-2
append-requires-2 g c =
    let read = sym (rw c.if-not-bytes_into.false at c.bytes_into.ensures) in
    let counts = twin_counts g.row.N c.args.first_word.now _ read c.if-first_word-lt-SHORTEST_TWIN.false in
    let count = (length c.args.first_word.now - 6) / 2 in
    let bytes = c.bytes_into.new.bytes.items in
    let items : c.append.new.bytes.items ≡ take count bytes =
    c.append.ensures ∙ rw (c.clear.ensures, c.as_slice.ensures.value) refl in
    let first : length c.append.new.bytes.items ≡ count =
    ap length items ∙ length-take-le count bytes (omega (arith, counts.0)) in
    let last : length (take 3 c.front_of-digits.result.0) ≡ 3 = search rules in
    (search rules, omega (arith, first, last, counts.0, counts.1))

pub returns-clause-second : goal.returns-clause-second
returns-clause-second g c _ =
    let word = c.args.second_word.now in
    let other = c.args.first_word.now in
    let front = length other - 6 in
    let count = front / 2 in
    let bytes = c.bytes_into.new.bytes.items in
    let checks = c.front_of-digits.result.0 in
    let read = sym (rw c.if-not-bytes_into.false at c.bytes_into.ensures) in
    let counts = twin_counts g.row.N other bytes read c.if-first_word-lt-SHORTEST_TWIN.false in
    let eq : bytes_eq (take front other) (take front word) ≡ true = search rules in
    let checks_len : length checks ≡ 16 = search rules in
    let items : c.append-2.new.bytes.items ≡ take count bytes ++ take 3 checks =
    c.append-2.ensures ∙ rw (c.append.ensures, c.clear.ensures, c.as_slice.ensures.value) refl in
    let six : c.front_of-digits.result.1 ≡ 6 =
    omega (arith, c.front_of-digits.ensures.few.1, c.if-digits-lt-CHECK_DIGITS.false) in
    let spelled : encode_lower (take 3 checks) ≡ take 6 c.whole_block.result =
    rw six at c.front_of-digits.ensures.spelled in
    let rest_len : length (drop front word) ≡ 6 =
    length-drop front word ∙ omega (arith, c.if-second_word-first_word.false, c.if-first_word-lt-SHORTEST_TWIN.false) in
    let block = ap (take 6) (rw take_rest at c.whole_block.ensures) ∙ take_at (drop front word) _ 6 rest_len in
    rw items (twin_read g.row.N count front word other bytes checks read counts.0 counts.2
    (sym ((bytes_eq-Decides (take front other) (take front word)).0 eq)) (spelled ∙ block) checks_len
    c.front_of-digits.ensures.fits)
