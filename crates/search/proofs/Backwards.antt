-- Rows written from the end of the count backwards: newer rows first, the older ones before them, are all rows from the area's
-- start. Assumes nothing.
use mathlib.Core.Path.{◌≡◌, refl, sym, ap, ◌∙◌}
use mathlib.Core.List.{List, [], ◌∷◌, ◌++◌, append_assoc}
use Prim.Native.Nat.{ℕ, ◌+◌, ◌*◌, ◌≤◌}
use native.Mathlib.Omega.{arith}
use lib.ListN.{length, take, drop, length-append, take-append-drop}
use lib.Seq.{length-take-le, take-append-le, take-take, drop_at}
use Rattle.codec.specs.Area.{splice}
use Rattle.found.proofs.Wide.{Wide}
use Rattle.search.specs.Answers.{row_bytes}
use Rattle.search.proofs.Rows.{length_rows, rows_append}

-- a splice right before another
pub splice_before : (s : List ℕ) (at : ℕ) (p : List ℕ) (to : ℕ) (q : List ℕ) → at + length p ≡ to → to ≤ length s
    → splice (splice s to q) at p ≡ splice s at (p ++ q)
unfolding splice
splice_before s at p to q e h =
    let k : length (take to s) ≡ to = length-take-le to s h in
    let m : length (take to s ++ q) ≡ to + length q = simp (length-append, k) in
    let t : take at (take to s ++ q ++ drop (to + length q) s) ≡ take at s =
    take-append-le at (take to s ++ q) _ (omega arith) ∙ take-append-le at (take to s) q (omega arith) ∙ take-take at to s
    (omega arith) in
    let d : drop (at + length p) (take to s ++ q ++ drop (to + length q) s) ≡ q ++ drop (to + length q) s =
    ap (drop (at + length p)) (append_assoc (take to s) q _) ∙ drop_at (take to s) _ (at + length p) (k ∙ sym e) in
    let n : at + length (p ++ q) ≡ to + length q = simp length-append (omega arith) in
    rw (t, d, n) (sym (append_assoc (take at s ++ p) q _) ∙ ap (λ (l : List ℕ). l ++ drop (to + length q) s)
    (append_assoc (take at s) p q))

pub splice_none : (s : List ℕ) (at : ℕ) → splice s at [] ≡ s
unfolding splice
splice_none s at =
    let z : at + 0 ≡ at = omega arith in let a : take at s ++ [] ≡ take at s = append_nil (take at s) in rw (z, a)
    (take-append-drop at s)
  where
    append_nil : (l : List ℕ) → l ++ [] ≡ l
    append_nil [] = refl
    append_nil (x ∷ l) = ap (λ (k : List ℕ). x ∷ k) (append_nil l)

-- the newer rows end where all rows end; with the older ones before them they are all
pub backwards : (area : List ℕ) (older newer : List (List ℕ)) (row : ℕ) → Wide 32 older → row ≡ length older
    → row * 32 ≤ length area
    → splice (splice area (row * 32) (row_bytes newer)) 0 (row_bytes older) ≡ splice area 0 (row_bytes (older ++ newer))
backwards area older newer row w e h =
    let l = length_rows 32 older w in
    splice_before area 0 (row_bytes older) (row * 32) (row_bytes newer) (omega arith) h ∙ ap (splice area 0)
    (sym (rows_append older newer))
