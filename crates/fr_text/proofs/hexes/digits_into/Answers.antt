use Rattle.std.proofs.Common.{◌≡◌, ◌<◌, ◌+◌, ◌*◌, ◌/◌, ◌%◌, ◌++◌, ◌==◌, ℕ, List, [], length, get_or, take, drop, ap}
use Rattle.std.proofs.Common.{arith, sym, refl, ◌∙◌, lit<, inl, inr, rules}
use Rattle.std.proofs.lemmas.Bool.{cases_Bool, eqb-true, eqb-false}
use Rattle.std.proofs.lemmas.List.{length-append, length-drop, length-take-le}
use Rattle.hex.specs.Hex.{encode_lower}
use Rattle.fr_text.proofs.DigitLemmas.{missing_long, missing_odd, bytes_found, bytes_missing, spelled_length}
use Rattle.fr_text.proofs.DigitLemmas.{digits_of_bytes, block_at, take_block, encode-none, encode-append}
use Rattle.fr_text.proofs.DigitLemmas.{digits_in_block, digits_in_last, blocks_spelled, whole_front}
use Rattle.fr_text.proofs.DigitLemmas.{IsBytes-append, IsBytes-take}
use Rattle.fr_text.proofs.hexes.digits_into.Goals as goal

pub returns-then-digits : goal.returns-then-digits
returns-then-digits g c =
    elim c.then-digits.branch [
      | goal.then-digits-via-then-digits w ↦ sym (missing_long _ c.args.digits.now w.if-digits.true)
      | goal.then-digits-via-else-digits+then-digits-eq1 w ↦ sym (missing_odd _ c.args.digits.now w.if-digits-eq1.true)
    ]

pub loop-block-init : goal.loop-block-init
loop-block-init g c = rw c.clear.ensures (record {
  long = refl;
  fits = λ i. lit< tt;
  spelled = encode-none;
})

pub returns-then-front-lt-BLOCK : goal.returns-then-front-lt-BLOCK
returns-then-front-lt-BLOCK g c =
    let digits = c.args.digits.now in
    let i = c.loop-block.block-index in
    let count = length digits / 32 in
    let within : i < count = omega (arith, c.loop-block-test.true, c.as_chunks.ensures.front_len) in
    let block : get_or c.as_chunks.result.0.now i [] ≡ take 32 (drop (32 * i) digits) =
    ap (λ (blocks : List (List ℕ)). get_or blocks i []) c.as_chunks.ensures.front ∙ block_at count i digits [] within in
    sym (bytes_missing _ digits (λ bs fits is short.
    let are = digits_of_bytes digits bs fits is in
    let here = digits_in_block i digits _ block (λ k lt. are k (omega arith)) in
    omega (arith, c.front_of-front.ensures.only here, c.if-front-lt-BLOCK.true)))

pub loop-block-preserved : goal.loop-block-preserved
loop-block-preserved g c =
    let digits = c.args.digits.now in
    let i = c.loop-block.block-index in
    let bytes = c.loop-block.bytes.items in
    let read = c.front_of-front.result.0 in
    let count = length digits / 32 in
    let within : i < count = omega (arith, c.loop-block-test.true, c.as_chunks.ensures.front_len) in
    let block : get_or c.as_chunks.result.0.now i [] ≡ take 32 (drop (32 * i) digits) =
    ap (λ (blocks : List (List ℕ)). get_or blocks i []) c.as_chunks.ensures.front ∙ block_at count i digits [] within in
    let read_len : length read ≡ 16 = search rules in
    rw c.append.ensures (record {
      long = let both = length-append bytes read in omega (arith, both, read_len, c.loop-block.invariant.long);
      fits = IsBytes-append bytes read c.loop-block.invariant.fits c.front_of-front.ensures.fits;
      spelled =
          let long = length-drop (32 * i) digits in
          let block_len = ap length block ∙ length-take-le 32 (drop (32 * i) digits) (omega arith) in
          let whole =
          whole_front c.front_of-front.result.1 read _ c.if-front-lt-BLOCK.false c.front_of-front.ensures.few.0 read_len
          block_len c.front_of-front.ensures.spelled in
          let first = c.loop-block.invariant.spelled in
          let second = whole ∙ block in
          encode-append bytes read ∙ (λ j. first j ++ second j) ∙ take_block i digits;
    })

pub returns : goal.returns
returns g c =
    let digits = c.args.digits.now in
    let i = c.loop-block.block-index in
    let head = c.loop-block.bytes.items in
    let rest = c.as_chunks.result.1.now in
    let read = c.front_of-front-2.result.0 in
    let front = c.front_of-front-2.result.1 in
    let all : length digits / 32 * 32 ≡ 32 * i =
    omega (arith, c.loop-block-test.false, c.loop-block.auto.block-index-end, c.as_chunks.ensures.front_len) in
    let rest_is : rest ≡ drop (32 * i) digits = c.as_chunks.ensures.back ∙ ap (λ (n : ℕ). drop n digits) all in
    let rest_len : length rest ≡ length digits % 32 = c.as_chunks.ensures.back_len in
    let even : length rest % 2 ≡ 0 = omega (arith, rest_len, c.if-digits-eq1.false) in
    let long : length rest + 32 * i ≡ length digits = omega (arith, rest_len, all) in
    rw c.append-2.ensures (elim (cases_Bool (front == 32)) [
      | inl pass ↦
          let is = eqb-true front 32 pass in
          let read_len : length read ≡ 16 = search rules in
          let block_len : length c.whole_block.result ≡ 32 = search rules in
          let whole =
          whole_front front read _ (omega (arith, is)) c.front_of-front-2.ensures.few.0 read_len block_len
          c.front_of-front-2.ensures.spelled in
          let bytes = head ++ take (length rest / 2) read in
          let first = c.loop-block.invariant.spelled in
          let second = whole ∙ c.whole_block.ensures in
          let spelled : encode_lower bytes ≡ digits =
          blocks_spelled i digits rest head read rest_is even first second in
          let read_fits = IsBytes-take (length rest / 2) read c.front_of-front-2.ensures.fits in
          let fits = IsBytes-append head (take (length rest / 2) read) c.loop-block.invariant.fits read_fits in
          let twice = spelled_length bytes digits spelled in
          rw pass (sym (bytes_found _ digits bytes fits spelled (omega (arith, twice, c.if-digits.false))))
      | inr fail ↦
          rw fail (sym (bytes_missing _ digits (λ bs fits is short.
          let are = digits_of_bytes digits bs fits is in
          let here = digits_in_last i digits rest _ rest_is c.whole_block.ensures long are in
          eqb-false front 32 fail (omega (arith, c.front_of-front-2.ensures.only here)))))
    ])
