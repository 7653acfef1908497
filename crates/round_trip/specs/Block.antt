-- A block that is written is taken, and gives its records back; a block that is taken is the one that is
-- written of its records. Both rest on one decomposition: four bytes, the records, zeros up to byte 510, the
-- check. Assumes nothing.
use Rattle.std.specs.Prelude.{◌≡◌, Bool, true, ℕ, ◌+◌, ◌-◌, ◌*◌, ◌/◌, ◌%◌, ◌≤◌, ◌<◌, take}
use Rattle.std.proofs.Math.Path.{sym, ap, ap₂}
use Rattle.std.proofs.Common.{◌∙◌, take-append-drop, drop_of_length-le, drop-cons, drop-drop}
use mathlib.Core.List.{List, [], ◌∷◌, ◌++◌, append_assoc}
use native.Mathlib.Omega.{arith}
use Rattle.std.proofs.Math.ListN.{length, get_or, drop, replicate, length-drop, length-replicate}
use Rattle.std.proofs.lemmas.List.{replicate-append-replicate}
use Rattle.std.proofs.Math.Seq.{take_at, drop_at, get_or_at, get_or-append-add, length-take-le}
use borrow.Author.Tests.{eq-eqb}
use Rattle.definitions.specs.General.{filled, Bytes}
use Rattle.definitions.specs.Checksum.{checksum}
use Rattle.definitions.specs.Block.{body, block, count_of, records_in, unused_in, right_check, right_count, right_form, block_refusal}
use Rattle.parts.specs.Laws.{zeros_are, replicate_zero}
use Rattle.checksum.specs.Laws.{checksum_front}
use Rattle.block.specs.Laws.{length_body, count_small, Formed, taken, length_records_in}

-- ---- the decomposition
-- the first four bytes of block n with c records
abbrev head : ℕ → ℕ → List ℕ
head n c = n % 256 ∷ n / 256 ∷ c ∷ 0 ∷ []

-- the body: the head, the records, zeros
body_parts : (n : ℕ) (rs : List ℕ) → length rs ≤ 504
    → body n rs ≡ head n (length rs / 8) ++ (rs ++ replicate (506 - length rs) 0)
unfolding body filled
body_parts n rs h =
    let e : 504 - length rs + 2 ≡ 506 - length rs = omega arith in
    ap (λ (x : List ℕ). head n (length rs / 8) ++ x)
    (append_assoc rs (replicate (504 - length rs) 0) (0 ∷ 0 ∷ [])
    ∙ ap (λ (x : List ℕ). rs ++ x)
    (replicate-append-replicate (504 - length rs) 2 0 ∙ ap (λ (k : ℕ). replicate k 0) e))

-- the last two bytes of a block
check_bytes : (b : List ℕ) → length b ≡ 512 → drop 510 b ≡ get_or b 510 0 ∷ get_or b 511 0 ∷ []
check_bytes b h =
    drop-cons b 510 0 (omega arith)
    ∙ ap (λ (x : List ℕ). get_or b 510 0 ∷ x)
    (drop-cons b 511 0 (omega arith)
    ∙ ap (λ (x : List ℕ). get_or b 511 0 ∷ x) (drop_of_length-le b {i = 512} (omega arith)))

-- the first four bytes of a block
head_bytes : (b : List ℕ) → length b ≡ 512 → b ≡ get_or b 0 0 ∷ get_or b 1 0 ∷ get_or b 2 0 ∷ get_or b 3 0 ∷ drop 4 b
head_bytes b h =
    drop-cons b 0 0 (omega arith)
    ∙ ap (λ (x : List ℕ). get_or b 0 0 ∷ x) (drop-cons b 1 0 (omega arith)
    ∙ ap (λ (x : List ℕ). get_or b 1 0 ∷ x) (drop-cons b 2 0 (omega arith)
    ∙ ap (λ (x : List ℕ). get_or b 2 0 ∷ x) (drop-cons b 3 0 (omega arith))))

-- ---- a block that is written
module _ (n : ℕ) (last : Bool) (rs : List ℕ) (k : ℕ) (long : length rs ≡ 8 * k)
    (right : right_count last k ≡ true) (small : n < 65536) where
  fits : length rs ≤ 504
  fits = omega (arith, (count_small last k right).1)

  count : length rs / 8 ≡ k
  count = omega arith

  check : ℕ
  check = checksum (body n rs)

  zeros : List ℕ
  zeros = replicate (506 - length rs) 0

  rest : List ℕ
  rest = check / 256 ∷ check % 256 ∷ []

  -- from byte 4 on
  tail : List ℕ
  tail = (rs ++ zeros) ++ rest

  whole : block n rs ≡ head n k ++ tail
  unfolding block check zeros rest tail
  whole = ap (λ (x : List ℕ). x ++ rest)
      (body_parts n rs fits ∙ ap (λ (c : ℕ). head n c ++ (rs ++ zeros)) count)

  tail_parts : tail ≡ rs ++ (zeros ++ rest)
  unfolding tail
  tail_parts = append_assoc rs zeros rest

  pub records_back : records_in (block n rs) ≡ rs
  records_back = rw whole (ap (take (8 * k)) tail_parts ∙ take_at rs (zeros ++ rest) (8 * k) long)

  unused : unused_in (head n k ++ tail) ≡ zeros
  unfolding zeros
  unused =
      let e : length zeros ≡ 510 - (4 + 8 * k) = length-replicate (506 - length rs) 0 ∙ omega arith in
      ap (take (510 - (4 + 8 * k)))
      (sym (drop-drop (8 * k) 4 (head n k ++ tail)) ∙ ap (drop (8 * k)) tail_parts
      ∙ drop_at rs (zeros ++ rest) (8 * k) long)
      ∙ take_at zeros rest (510 - (4 + 8 * k)) e

  form : right_form n last (head n k ++ tail) ≡ true
  unfolding right_form zeros
  form =
      let e : n % 256 + n / 256 * 256 ≡ n = omega arith in
      rw (eq-eqb (n % 256 + n / 256 * 256) n e, right, unused, replicate_zero (506 - length rs))

  checked : right_check (block n rs) ≡ true
  unfolding block check
  checked =
      let lb : length (body n rs) ≡ 510 = length_body n rs fits in
      let high : get_or (block n rs) 510 0 ≡ check / 256 =
      get_or_at (body n rs) (check / 256) (check % 256 ∷ []) 0 510 lb in
      let place : 511 ≡ length (body n rs) + 1 = omega arith in
      let low : get_or (block n rs) 511 0 ≡ check % 256 =
      ap (λ (i : ℕ). get_or (block n rs) i 0) place
      ∙ get_or-append-add (body n rs) (check / 256 ∷ check % 256 ∷ []) 1 0 in
      let sum : checksum (block n rs) ≡ check =
      checksum_front (body n rs) (check / 256 ∷ check % 256 ∷ []) lb in
      eq-eqb _ _ (ap₂ (λ (x y : ℕ). x * 256 + y) high low ∙ omega arith ∙ sym sum)

  pub block_good : block_refusal n last (block n rs) ≡ 0
  unfolding block_refusal
  block_good = rw (checked, ap (right_form n last) whole ∙ form)

-- ---- a block that is taken
module _ (n : ℕ) (last : Bool) (b : List ℕ) (long : length b ≡ 512) (bytes : Bytes b)
    (good : block_refusal n last b ≡ 0) where
  facts : Formed n last b
  facts = (taken n last b good).1

  rs : List ℕ
  rs = records_in b

  size : ℕ
  size = 8 * count_of b

  small : size ≤ 504
  unfolding size
  small = omega (arith, (count_small last (count_of b) facts.counted).1)

  length_rs : length rs ≡ size
  unfolding rs size
  length_rs = length_records_in last b long facts.counted

  zeros_back : unused_in b ≡ replicate (506 - length rs) 0
  unfolding size
  zeros_back =
      let e : length (unused_in b) ≡ 510 - (4 + size) =
      length-take-le (510 - (4 + size)) (drop (4 + size) b) (simp length-drop (omega (arith, small))) in
      let f : 510 - (4 + size) ≡ 506 - length rs = omega (arith, length_rs) in
      zeros_are (unused_in b) facts.unused ∙ ap (λ (k : ℕ). replicate k 0) (e ∙ f)

  -- from byte 4 on: the records, zeros, the check
  tail_back : drop 4 b ≡ (rs ++ replicate (506 - length rs) 0) ++ drop 510 b
  unfolding rs size
  tail_back =
      let e : 4 + size + (510 - (4 + size)) ≡ 510 = omega (arith, small) in
      let after : drop (4 + size) b ≡ replicate (506 - length rs) 0 ++ drop 510 b =
      sym (take-append-drop (510 - (4 + size)) (drop (4 + size) b))
      ∙ ap₂ ◌++◌ zeros_back (drop-drop (510 - (4 + size)) (4 + size) b ∙ ap (λ (k : ℕ). drop k b) e) in
      sym (take-append-drop size (drop 4 b))
      ∙ ap (λ (x : List ℕ). rs ++ x) (drop-drop size 4 b ∙ after)
      ∙ sym (append_assoc rs (replicate (506 - length rs) 0) (drop 510 b))

  -- the four bytes in front
  front : head n (length rs / 8) ≡ get_or b 0 0 ∷ get_or b 1 0 ∷ get_or b 2 0 ∷ get_or b 3 0 ∷ []
  unfolding size
  front =
      let e0 : n % 256 ≡ get_or b 0 0 = omega (arith, facts.numbered, bytes 0) in
      let e1 : n / 256 ≡ get_or b 1 0 = omega (arith, facts.numbered, bytes 0) in
      let e2 : length rs / 8 ≡ get_or b 2 0 = omega (arith, length_rs) in
      rw (e0, e1, e2, facts.zero_byte)

  body_back : body n rs ++ drop 510 b ≡ b
  body_back =
      ap (λ (x : List ℕ). x ++ drop 510 b) (body_parts n rs (omega (arith, length_rs, small)))
      ∙ ap (λ (x : List ℕ). (x ++ (rs ++ replicate (506 - length rs) 0)) ++ drop 510 b) front
      ∙ ap (λ (x : List ℕ). get_or b 0 0 ∷ get_or b 1 0 ∷ get_or b 2 0 ∷ get_or b 3 0 ∷ x) (sym tail_back)
      ∙ sym (head_bytes b long)

  pub block_back : block n (records_in b) ≡ b
  unfolding block rs
  block_back =
      let sum : checksum (body n rs) ≡ checksum b =
      sym (checksum_front (body n rs) (drop 510 b) (length_body n rs (omega (arith, length_rs, small))))
      ∙ ap checksum body_back in
      let high : checksum (body n rs) / 256 ≡ get_or b 510 0 =
      omega (arith, sum, (taken n last b good).0, bytes 511) in
      let low : checksum (body n rs) % 256 ≡ get_or b 511 0 =
      omega (arith, sum, (taken n last b good).0, bytes 511) in
      ap₂ (λ (x y : ℕ). body n rs ++ (x ∷ y ∷ [])) high low
      ∙ ap (λ (x : List ℕ). body n rs ++ x) (sym (check_bytes b long))
      ∙ body_back
