-- What stands in an area after a call that was accepted, and after one that was not. Assumes nothing.
use mathlib.Core.Path.{◌≡◌, refl, ap, ◌∙◌}
use mathlib.Core.Bool.{cond}
use mathlib.Core.List.{List, [], ◌∷◌}
use Prim.Native.Nat.{ℕ}
use native.Mathlib.Omega.{arith}
use lib.ListN.{length}
use borrow.Author.Tests.{ne_eqb}
use Rattle.codec.specs.Area.{splice}
use Rattle.codec.specs.Number.{bytes}
use Rattle.codec.proofs.Areas.{splice_all}
use Rattle.codec.proofs.Numbers.{length_bytes}
use Rattle.loads.specs.Signed.{side_by_side}
use Rattle.loads.proofs.SideBySide.{put_none, put_next, put_all, length_side}
use Rattle.kept.specs.Kept.{kept}

pub kept_new : (n : ℕ) (new old : List ℕ) → n ≡ 0 → kept n new old ≡ new
kept_new n new old e = ap (λ (k : ℕ). kept k new old) e

pub kept_old : (n : ℕ) (new old : List ℕ) → (n ≡ 0 → ⊥) → kept n new old ≡ old
kept_old n new old h = ap (λ t. cond t new old) (ne_eqb n 0 h)

-- four numbers of 8 bytes, one after the other, fill 32
pub four_kept : (s t u v w : List ℕ) (a b c d : ℕ) → length s ≡ 32 → t ≡ splice s 0 (bytes 8 a) → u ≡ splice t 8 (bytes 8 b)
    → v ≡ splice u 16 (bytes 8 c) → w ≡ splice v 24 (bytes 8 d) → w ≡ side_by_side (bytes 8) (a ∷ b ∷ c ∷ d ∷ [])
four_kept s t u v w a b c d l e f g h =
    let xs : List ℕ = a ∷ b ∷ c ∷ d ∷ [] in
    let wide = length_bytes 8 in
    let one = put_next (bytes 8) 8 wide s s t 0 xs 0 0 0 a (omega arith) (omega arith) (omega arith)
    (put_none (bytes 8) 8 wide s 0 xs (omega arith)) refl e in
    let two = put_next (bytes 8) 8 wide s t u 0 xs 1 8 0 b (omega arith) (omega arith) (omega arith) one refl f in
    let three = put_next (bytes 8) 8 wide s u v 0 xs 2 16 0 c (omega arith) (omega arith) (omega arith) two refl g in
    let all = put_next (bytes 8) 8 wide s v w 0 xs 3 24 0 d (omega arith) (omega arith) (omega arith) three refl h in
    put_all (bytes 8) 8 wide s w 0 xs 4 (omega arith) all ∙ splice_all s _ (length_side (bytes 8) 8 wide xs ∙ omega arith)

-- and two fill 16
pub two_kept : (s t u : List ℕ) (a b : ℕ) → length s ≡ 16 → t ≡ splice s 0 (bytes 8 a) → u ≡ splice t 8 (bytes 8 b)
    → u ≡ side_by_side (bytes 8) (a ∷ b ∷ [])
two_kept s t u a b l e f =
    let xs : List ℕ = a ∷ b ∷ [] in
    let wide = length_bytes 8 in
    let one = put_next (bytes 8) 8 wide s s t 0 xs 0 0 0 a (omega arith) (omega arith) (omega arith)
    (put_none (bytes 8) 8 wide s 0 xs (omega arith)) refl e in
    let all = put_next (bytes 8) 8 wide s t u 0 xs 1 8 0 b (omega arith) (omega arith) (omega arith) one refl f in
    put_all (bytes 8) 8 wide s u 0 xs 2 (omega arith) all ∙ splice_all s _ (length_side (bytes 8) 8 wide xs ∙ omega arith)
