-- A place of a text and the list from there on: a byte that stands at a place, the bytes behind it, a line's end. Assumes nothing.
use mathlib.Core.Path.{◌≡◌, refl, sym, ap, ◌∙◌}
use mathlib.Core.Bool.{Bool, true, false, ◌&&◌, false≢true}
use mathlib.Core.List.{List, [], ◌∷◌, ◌++◌}
use Prim.Native.Nat.{ℕ, suc, ◌+◌, ◌≤◌, ◌<◌}
use native.Mathlib.Numerals.{add-one}
use native.Mathlib.Decide.{dec_lt}
use native.Mathlib.Omega.{arith}
use borrow.Author.Tests.{eqb-true, ne_eqb}
use lib.Dec.{eqb}
use lib.ListN.{length, get_or, drop, get_or-eq_default, drop_of_length-le}
use lib.Seq.{drop-cons, drop-drop, get_or-drop}
use Rattle.codec.proofs.Truth.{and_parts}
use Rattle.csv_text.specs.Inner.Descent.{bit, once, ends, behind_end, EndPassed}

-- ---- a byte at a place

-- past the end stands none
pub none_there : (text : List ℕ) (at b : ℕ) → 0 < b → length text ≤ at → false ≡ eqb (get_or text at 0) b
none_there text at b z h = rw (get_or-eq_default text 0 {n = at} h) (sym (ne_eqb 0 b (λ e. omega arith)))

-- the byte at a place is the first from there on
pub first_from : (text : List ℕ) (at : ℕ) → get_or text at 0 ≡ get_or (drop at text) 0 0
first_from text at = let e : at + 0 ≡ at = omega arith in sym (get_or-drop at text 0 0 ∙ ap (λ (k : ℕ). get_or text k 0) e)

pub within : (text : List ℕ) (at b : ℕ) → 0 < b → eqb (get_or text at 0) b ≡ true → at < length text
within text at b z e = go (dec_lt at (length text))
  where
    go : Dec (at < length text) → at < length text
    go (yes h) = h
    go (no h) = absurd (false≢true (none_there text at b z (omega arith) ∙ e))

pub from_next : (text bytes : List ℕ) (at b : ℕ) → drop at text ≡ b ∷ bytes → drop (at + 1) text ≡ bytes
from_next text bytes at b e = sym (drop-drop 1 at text) ∙ ap (drop 1) e

-- a byte that is there or not, and what is behind it
pub there : (text : List ℕ) (at b : ℕ) (t : Bool) → 0 < b → (t ≡ true → eqb (get_or text at 0) b ≡ true)
    → drop at text ≡ once t b ++ drop (at + bit t) text
there text at b true z h =
    let e = h refl in
    let k = within text at b z e in
    rw (drop-cons text at 0 k, eqb-true (get_or text at 0) b e, add-one at)
there text at b false z h = let e : at + 0 ≡ at = omega arith in rw e

pub behind : (text bytes : List ℕ) (at b : ℕ) (t : Bool) → drop at text ≡ once t b ++ bytes → drop (at + bit t) text ≡ bytes
behind text bytes at b true e = from_next text bytes at b e
behind text bytes at b false e = let z : at + 0 ≡ at = omega arith in rw z e

pub there_inside : (text : List ℕ) (at b : ℕ) (t : Bool) → 0 < b → (t ≡ true → eqb (get_or text at 0) b ≡ true) → at ≤ length text
    → at + bit t ≤ length text
there_inside text at b true z h k = omega (arith, within text at b z (h refl))
there_inside text at b false z h k = omega arith

-- ---- a line's end

ends_inside : (text : List ℕ) (at : ℕ) → at < length text
    → (eqb (get_or text at 0) 13 && eqb (get_or text (at + 1) 0) 10) ≡ ends (drop at text)
unfolding ends
ends_inside text at h = rw (drop-cons text at 0 h, add-one at, first_from text (suc at))

pub end_inside : (text : List ℕ) (at : ℕ) → at < length text
    → (eqb (get_or text at 0) 13 && eqb (get_or text (at + 1) 0) 10) ≡ true
    → EndPassed text at (at + 2)
unfolding behind_end
end_inside text at h e =
    let t = and_parts (eqb (get_or text at 0) 13) (eqb (get_or text (at + 1) 0) 10) e in
    let k = within text (at + 1) 10 (omega arith) t.1 in
    let d : drop 1 (drop (suc at) text) ≡ drop (at + 2) text =
    let n : suc at + 1 ≡ at + 2 = omega arith in drop-drop 1 (suc at) text ∙ ap (λ (j : ℕ). drop j text) n in
    record { there = sym (ends_inside text at h) ∙ e; from = omega arith; inside = omega arith; behind = rw (drop-cons text at 0 h, d) }

pub end_outside : (text : List ℕ) (at : ℕ) → at ≡ length text → EndPassed text at at
unfolding ends behind_end
end_outside text at e =
    let h : length text ≤ at = omega arith in
    let n : drop at text ≡ [] = drop_of_length-le text {i = at} h in
    record { there = rw n; from = omega arith; inside = omega arith; behind = rw n }

pub no_end : (text : List ℕ) (at : ℕ) → at < length text
    → (eqb (get_or text at 0) 13 && eqb (get_or text (at + 1) 0) 10) ≡ false
    → ends (drop at text) ≡ false
no_end text at h e = sym (ends_inside text at h) ∙ e
