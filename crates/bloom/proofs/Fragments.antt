-- Byte jL + m of Bloom page i is byte iL + m of section j, and 0 past the sections. By induction on the sections.
use mathlib.Core.Path.{◌≡◌, refl, sym, ap, ◌∙◌}
use mathlib.Core.List.{List, [], ◌∷◌, ◌++◌}
use Prim.Native.Nat.{ℕ, zero, suc, ◌+◌, ◌-◌, ◌*◌, ◌/◌, ◌%◌, ◌≤◌, ◌<◌}
use native.Mathlib.Decide.{dec_lt}
use native.Mathlib.Nat.{suc-mul, mul-le-mul_right, div-add-mod', mod-lt}
use native.Mathlib.Omega.{arith}
use lib.ListN.{length, get_or, length-append, get_or-append, get_or-eq_default}
use lib.Seq.{get_or-append-add}
use Rattle.codec.specs.Area.{repeated}
use Rattle.codec.proofs.Areas.{length_repeated}
use Rattle.bloom.specs.Pages.{fragment_length, fragment, fragments, zero_filled, bloom_page}
use Rattle.bloom.proofs.Each.{length_each, get_or_each}
use Rattle.bloom.proofs.Section.{Bytes, zeros}

-- ---- the fragment length: 128 for up to four sections, 102 for five

pub record Length (s : ℕ) : Type 0 where
  pub some : 0 < fragment_length s
  pub most : fragment_length s ≤ 128
  pub half : 128 ≤ 2 * fragment_length s
  pub page : s * fragment_length s ≤ 512
  pub four : s ≤ 4 → fragment_length s ≡ 128

pub fragment_length_lem : (s : ℕ) → 1 ≤ s → s ≤ 5 → Length s
unfolding fragment_length
fragment_length_lem zero h k = absurd (omega arith)
fragment_length_lem (suc zero) h k = omega arith
fragment_length_lem (suc (suc zero)) h k = omega arith
fragment_length_lem (suc (suc (suc zero))) h k = omega arith
fragment_length_lem (suc (suc (suc (suc zero)))) h k = omega arith
fragment_length_lem (suc (suc (suc (suc (suc zero))))) h k = omega arith
fragment_length_lem (suc (suc (suc (suc (suc (suc s)))))) h k = absurd (omega arith)

-- the fragment of section j lies in the page
pub fragment_room : (s j : ℕ) → Length s → j < s → j * fragment_length s + fragment_length s ≤ 512
fragment_room s j l h = omega (arith, l.page, suc-mul j (fragment_length s), mul-le-mul_right (fragment_length s) h)

-- ---- the bytes of a fragment, of all fragments, of a page

pub length_fragment : (L i : ℕ) (s : List ℕ) → length (fragment L i s) ≡ L
unfolding fragment
length_fragment L i s = length_each _ 0 L

pub get_or_fragment : (L i : ℕ) (s : List ℕ) (k : ℕ) → k < L → get_or (fragment L i s) k 0 ≡ get_or s (i * L + k) 0
unfolding fragment
get_or_fragment L i s k h =
    let e : i * L + (0 + k) ≡ i * L + k = omega arith in
    get_or_each (λ k. get_or s (i * L + k) 0) 0 L k 0 h ∙ ap (λ (n : ℕ). get_or s n 0) e

pub length_fragments : (L i : ℕ) (ss : List (List ℕ)) → length (fragments L i ss) ≡ length ss * L
unfolding fragments
length_fragments L i [] = omega arith
length_fragments L i (s ∷ ss) =
    length-append (fragment L i s) (fragments L i ss)
    ∙ omega (arith, length_fragment L i s, length_fragments L i ss, suc-mul (length ss) L)

pub get_or_fragments : (L i : ℕ) (ss : List (List ℕ)) (j m : ℕ) → m < L
    → get_or (fragments L i ss) (j * L + m) 0 ≡ get_or (get_or ss j []) (i * L + m) 0
unfolding fragments
get_or_fragments L i [] j m h = refl
get_or_fragments L i (s ∷ ss) zero m h =
    let e : 0 * L + m ≡ m = omega arith in
    ap (λ (n : ℕ). get_or (fragment L i s ++ fragments L i ss) n 0) e
    ∙ get_or-append (fragment L i s) (fragments L i ss) 0 m (omega (arith, length_fragment L i s)) ∙ get_or_fragment L i s m h
get_or_fragments L i (s ∷ ss) (suc j) m h =
    let e : suc j * L + m ≡ length (fragment L i s) + (j * L + m) = omega (arith, length_fragment L i s, suc-mul j L) in
    ap (λ (n : ℕ). get_or (fragment L i s ++ fragments L i ss) n 0) e
    ∙ get_or-append-add (fragment L i s) (fragments L i ss) (j * L + m) 0 ∙ get_or_fragments L i ss j m h

get_or_zero_filled : (l : List ℕ) (k : ℕ) → get_or (zero_filled l) k 0 ≡ get_or l k 0
unfolding zero_filled
get_or_zero_filled l k = go (dec_lt k (length l))
  where
    rest : List ℕ
    rest = repeated (512 - length l) 0

    go : Dec (k < length l) → get_or (l ++ rest) k 0 ≡ get_or l k 0
    go (yes h) = get_or-append l rest 0 k h
    go (no f) =
        let e : k ≡ length l + (k - length l) = omega arith in
        ap (λ (n : ℕ). get_or (l ++ rest) n 0) e ∙ get_or-append-add l rest (k - length l) 0 ∙ zeros (512 - length l) (k - length l)
        ∙ sym (get_or-eq_default l 0 (omega arith))

module _ (ss : List (List ℕ)) (i : ℕ) where
  -- byte jL + m of page i is byte iL + m of section j
  pub page_at : (j m : ℕ) → m < fragment_length (length ss)
      → get_or (bloom_page ss i) (j * fragment_length (length ss) + m) 0 ≡ get_or (get_or ss j []) (i * fragment_length (length ss) + m) 0
  unfolding bloom_page
  page_at j m h =
      let L = fragment_length (length ss) in
      get_or_zero_filled (fragments L i ss) (j * L + m) ∙ get_or_fragments L i ss j m h

  pub page_byte : (k : ℕ) → Length (length ss)
      → get_or (bloom_page ss i) k 0
      ≡ get_or (get_or ss (k / fragment_length (length ss)) []) (i * fragment_length (length ss) + k % fragment_length (length ss)) 0
  page_byte k l =
      let L = fragment_length (length ss) in
      ap (λ (n : ℕ). get_or (bloom_page ss i) n 0) (sym (div-add-mod' k L)) ∙ page_at (k / L) (k % L) (mod-lt k l.some)

  -- past the last fragment
  pub page_past : (k : ℕ) → length ss * fragment_length (length ss) ≤ k → get_or (bloom_page ss i) k 0 ≡ 0
  unfolding bloom_page
  page_past k h =
      let L = fragment_length (length ss) in
      get_or_zero_filled (fragments L i ss) k ∙ get_or-eq_default (fragments L i ss) 0 (omega (arith, length_fragments L i ss))

  pub length_page : Length (length ss) → length (bloom_page ss i) ≡ 512
  unfolding bloom_page zero_filled
  length_page l =
      let L = fragment_length (length ss) in
      length-append (fragments L i ss) _
      ∙ omega (arith, l.page, length_fragments L i ss, length_repeated (512 - length (fragments L i ss)) 0)

  pub page_bytes_lem : Length (length ss) → ((j : ℕ) → Bytes (get_or ss j [])) → Bytes (bloom_page ss i)
  page_bytes_lem l h k = rw (page_byte k l) (h _ _)
