use Rattle.std.proofs.Common.{◌≡◌, ◌<◌, ◌*◌, ◌/◌, ◌%◌, ◌∷◌, ◌++◌, ℕ, List, [], length, get_or, take, drop, ap, arith}
use Rattle.std.proofs.Common.{refl, ◌∙◌, lit<, rules}
use Rattle.std.proofs.lemmas.List.{length-append, length-drop, length-take-le, take-append-le, take-take}
use Rattle.fr_text.proofs.DigitLemmas.{block_at, take_block, encode-none, encode-append, IsBytes-append}
use Rattle.fr_text.proofs.DigitLemmas.{word_if, whole_front}
use Rattle.fr_text.proofs.hexes.bytes_in_front.Goals as goal

pub loop-block-init : goal.loop-block-init
loop-block-init g c = rw c.clear.ensures (record {
  long = refl;
  fits = λ i. lit< tt;
  spelled = encode-none;
})

pub returns-then-front-lt-BLOCK-clause-read : goal.returns-then-front-lt-BLOCK-clause-read
returns-then-front-lt-BLOCK-clause-read g c =
    let digits = c.in_ok-mark.digits.now in
    let mark_is = ap (λ (m : ℕ). m ∷ digits) c.if-mark-ne120.false in
    let text_is : c.args.text.now ≡ 120 ∷ digits = c.in_ok-mark.ensures.cases.0 ∙ mark_is in
    let i = c.loop-block.block-index in
    let front = c.front_of-front.result.1 in
    let count = length digits / 32 in
    let within : i < count = omega (arith, c.loop-block-test.true, c.as_chunks.ensures.front_len) in
    let block : get_or c.as_chunks.result.0.now i [] ≡ take 32 (drop (32 * i) digits) =
    ap (λ (blocks : List (List ℕ)). get_or blocks i []) c.as_chunks.ensures.front ∙ block_at count i digits [] within in
    let facts = c.front_of-front.ensures in
    let front_is = ap (take front) block ∙ take-take front 32 (drop (32 * i) digits) facts.few.0 in
    word_if _ i front c.args.text.now digits c.loop-block.bytes.items c.front_of-front.result.0 _ _ c.finish.result
    text_is c.loop-block.invariant.spelled facts.spelled front_is (omega (arith, within, facts.few.0))
    c.loop-block.invariant.fits facts.fits
    c.finish.ensures.even c.finish.ensures.bytes c.finish.ensures.length c.finish.ensures.fits

pub loop-block-preserved : goal.loop-block-preserved
loop-block-preserved g c =
    let digits = c.in_ok-mark.digits.now in
    let mark_is = ap (λ (m : ℕ). m ∷ digits) c.if-mark-ne120.false in
    let text_is : c.args.text.now ≡ 120 ∷ digits = c.in_ok-mark.ensures.cases.0 ∙ mark_is in
    let i = c.loop-block.block-index in
    let bytes = c.loop-block.bytes.items in
    let read = c.front_of-front.result.0 in
    let front = c.front_of-front.result.1 in
    let count = length digits / 32 in
    let within : i < count = omega (arith, c.loop-block-test.true, c.as_chunks.ensures.front_len) in
    let block : get_or c.as_chunks.result.0.now i [] ≡ take 32 (drop (32 * i) digits) =
    ap (λ (blocks : List (List ℕ)). get_or blocks i []) c.as_chunks.ensures.front ∙ block_at count i digits [] within in
    let read_len : length read ≡ 16 = search rules in
    let facts = c.front_of-front.ensures in
    rw c.append.ensures (record {
      long = let both = length-append bytes read in omega (arith, both, read_len, c.loop-block.invariant.long);
      fits = IsBytes-append bytes read c.loop-block.invariant.fits facts.fits;
      spelled =
          let long = length-drop (32 * i) digits in
          let taken = length-take-le 32 (drop (32 * i) digits) (omega arith) in
          let block_len : length (get_or c.as_chunks.result.0.now i []) ≡ 32 = ap length block ∙ taken in
          let first = rw text_is at c.loop-block.invariant.spelled in
          let whole =
          whole_front front read _ c.if-front-lt-BLOCK.false facts.few.0 read_len block_len facts.spelled in
          let second = whole ∙ block in
          rw text_is (encode-append bytes read ∙ (λ j. first j ++ second j) ∙ take_block i digits);
    })

pub returns-clause-read : goal.returns-clause-read
returns-clause-read g c =
    let digits = c.in_ok-mark.digits.now in
    let mark_is = ap (λ (m : ℕ). m ∷ digits) c.if-mark-ne120.false in
    let text_is : c.args.text.now ≡ 120 ∷ digits = c.in_ok-mark.ensures.cases.0 ∙ mark_is in
    let i = c.loop-block.block-index in
    let rest = c.as_chunks.result.1.now in
    let front = c.front_of-front-2.result.1 in
    let all : length digits / 32 * 32 ≡ 32 * i =
    omega (arith, c.loop-block-test.false, c.loop-block.auto.block-index-end, c.as_chunks.ensures.front_len) in
    let rest_is : rest ≡ drop (32 * i) digits = c.as_chunks.ensures.back ∙ ap (λ (n : ℕ). drop n digits) all in
    let rest_len : length rest ≡ length digits % 32 = c.as_chunks.ensures.back_len in
    let facts = c.front_of-front-2.ensures in
    let front_is =
    ap (take front) c.whole_block.ensures ∙ take-append-le front rest _ facts.few.1 ∙ ap (take front) rest_is in
    word_if _ i front c.args.text.now digits c.loop-block.bytes.items c.front_of-front-2.result.0 _ _ c.finish-2.result
    text_is c.loop-block.invariant.spelled facts.spelled front_is (omega (arith, rest_len, all, facts.few.1))
    c.loop-block.invariant.fits facts.fits
    c.finish-2.ensures.even c.finish-2.ensures.bytes c.finish-2.ensures.length c.finish-2.ensures.fits
