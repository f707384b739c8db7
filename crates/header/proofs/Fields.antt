-- Fields side by side: written one after the other they are one write, and each is read where it stands.
-- By induction on the fields. Assumes nothing.
use mathlib.Core.Path.{◌≡◌, refl, sym, ap, ◌∙◌}
use mathlib.Core.List.{List, [], ◌∷◌, ◌++◌}
use Prim.Native.Nat.{ℕ, zero, suc, ◌+◌, ◌-◌, ◌≤◌, ◌<◌}
use native.Mathlib.Omega.{arith}
use lib.ListN.{length, get_or, take, drop, replicate, length-append}
use lib.Seq.{take_at, drop_at, drop-drop}
use Rattle.codec.specs.Area.{part, splice, repeated}
use Rattle.codec.proofs.Areas.{length_splice, splice_next}

drop_replicate : (m n v : ℕ) → drop m (replicate (m + n) v) ≡ replicate n v
drop_replicate zero n v = let e : 0 + n ≡ n = omega arith in rw e
drop_replicate (suc m) n v = let e : suc m + n ≡ suc (m + n) = omega arith in rw e (drop_replicate m n v)

-- fields side by side, and a last one
abbrev pub joined : List (List ℕ) → List ℕ → List ℕ
joined [] last = last
joined (f ∷ fs) last = f ++ joined fs last

-- written one after the other, from `at` on
abbrev pub put_all : List ℕ → ℕ → List (List ℕ) → List ℕ → List ℕ
put_all s at [] last = splice s at last
put_all s at (f ∷ fs) last = put_all (splice s at f) (at + length f) fs last

-- where field k starts
abbrev pub start_of : List (List ℕ) → ℕ → ℕ
start_of fs zero = 0
start_of [] (suc k) = 0
start_of (f ∷ fs) (suc k) = length f + start_of fs k

pub fields_put : (s : List ℕ) (at : ℕ) (fs : List (List ℕ)) (last : List ℕ) → at + length (joined fs last) ≤ length s
    → put_all s at fs last ≡ splice s at (joined fs last)
fields_put s at [] last h = refl
fields_put s at (f ∷ fs) last h =
    let l = length-append f (joined fs last) in
    let m = length_splice s at f (omega arith) in
    fields_put (splice s at f) (at + length f) fs last (omega arith)
    ∙ splice_next s at f (at + length f) (joined fs last) refl (omega arith)

-- written at the front of an area of one value
pub front_put : (n v : ℕ) (p : List ℕ) → length p ≤ n → splice (repeated n v) 0 p ≡ p ++ repeated (n - length p) v
unfolding splice repeated
front_put n v p h =
    let e : n ≡ length p + (n - length p) = omega arith in
    let z : 0 + length p ≡ length p = omega arith in
    let d : drop (length p) (replicate n v) ≡ replicate (n - length p) v =
    ap (λ (k : ℕ). drop (length p) (replicate k v)) e ∙ drop_replicate (length p) (n - length p) v in
    rw (z, d)

-- a part behind the first field
skip : (p q : List ℕ) (at n : ℕ) → part (p ++ q) (length p + at) n ≡ part q at n
unfolding part
skip p q at n = ap (take n) (sym (drop-drop at (length p) (p ++ q)) ∙ ap (drop at) (drop_at p q (length p) refl))

-- field k is read where it starts
pub field_read : (fs : List (List ℕ)) (last : List ℕ) (k : ℕ) → k < length fs
    → part (joined fs last) (start_of fs k) (length (get_or fs k [])) ≡ get_or fs k []
unfolding part
field_read [] last k h = absurd (omega arith)
field_read (f ∷ fs) last zero h = take_at f (joined fs last) (length f) refl
field_read (f ∷ fs) last (suc k) h =
    skip f (joined fs last) (start_of fs k) (length (get_or fs k [])) ∙ field_read fs last k (omega arith)
