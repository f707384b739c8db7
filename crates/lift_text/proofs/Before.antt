-- Texts written from the end backwards. The idea: a text written before another is one text with it, so that a line is written field by
-- field from its last one, each where the one after it begins. Assumes nothing.
use mathlib.Core.Path.{◌≡◌, refl, sym, ap, ◌∙◌}
use mathlib.Core.List.{List, [], ◌∷◌, ◌++◌, append_assoc}
use Prim.Native.Nat.{ℕ, ◌+◌, ◌-◌, ◌/◌, ◌%◌, ◌≤◌, ◌<◌}
use native.Mathlib.Omega.{arith}
use lib.ListN.{length, take, drop, set, length-append}
use lib.Seq.{length-take-le, take-append-le, take-take, drop_at}
use Rattle.codec.specs.Area.{splice}
use Rattle.codec.proofs.Areas.{splice_none, splice_next, length_splice}
use Rattle.answers.specs.Printed.{digit, digits}
use Rattle.answers.proofs.Justified.{digits_one, digits_more}
use Rattle.answers.proofs.Printing.{byte_stored}
use Rattle.lift_text.specs.Inner.Before.{PutBefore}
use Rattle.lift_text.specs.Text.{Told, load_text, line_end, line_text, heading, head_text}
use Rattle.lift_text.proofs.Lines.{line_parts, length_line}

-- two splices side by side, the second one first
splice_before : (s : List ℕ) (at : ℕ) (p : List ℕ) (to : ℕ) (q : List ℕ) → at + length p ≡ to → to ≤ length s
    → splice (splice s to q) at p ≡ splice s at (p ++ q)
unfolding splice
splice_before s at p to q e h =
    let k : length (take to s) ≡ to = length-take-le to s h in
    let a : (take to s ++ q) ++ drop (to + length q) s ≡ take to s ++ (q ++ drop (to + length q) s) =
    append_assoc (take to s) q (drop (to + length q) s) in
    let t : take at (take to s ++ (q ++ drop (to + length q) s)) ≡ take at s =
    take-append-le at (take to s) _ (omega arith) ∙ take-take at to s (omega arith) in
    let d : drop to (take to s ++ (q ++ drop (to + length q) s)) ≡ q ++ drop (to + length q) s = drop_at (take to s) _ to k in
    let n : at + length (p ++ q) ≡ to + length q = simp length-append (omega arith) in
    rw (a, e, t, d, n, ← append_assoc (take at s) p q) (sym (append_assoc (take at s ++ p) q (drop (to + length q) s)))

pub put_nothing : (area : List ℕ) (end : ℕ) → PutBefore area area [] end end
put_nothing area end = record { begins = omega arith; written = sym (splice_none area end [] refl) }

-- one byte
pub put_byte : (area : List ℕ) (k b end : ℕ) → k + 1 ≡ end → end ≤ length area → PutBefore area (set area k b) (b ∷ []) end k
put_byte area k b end e h = record { begins = e; written = byte_stored area k b (omega arith) }

-- two texts written one before the other are one text
pub put_before_both : (area new new2 text1 text2 : List ℕ) (end m r : ℕ) → end ≤ length area
    → PutBefore area new text2 end m → PutBefore new new2 text1 m r → PutBefore area new2 (text1 ++ text2) end r
put_before_both area new new2 text1 text2 end m r h p q = record {
  begins = let n = length-append text1 text2 in omega (arith, p.begins, q.begins);
  written = q.written ∙ ap (λ (s : List ℕ). splice s r text1) p.written
      ∙ splice_before area r text1 m text2 q.begins (omega (arith, p.begins));
}

pub length_put : (area new text : List ℕ) (end r : ℕ) → end ≤ length area → PutBefore area new text end r → length new ≡ length area
length_put area new text end r h p =
    ap length p.written ∙ length_splice area r text (omega (arith, p.begins))

-- a byte before a text
pub byte_before : (area new text : List ℕ) (end m k b : ℕ) → end ≤ length area → k + 1 ≡ m → PutBefore area new text end m
    → PutBefore area (set new k b) (b ∷ text) end k
byte_before area new text end m k b h e p =
    let n = length_put area new text end m h p in
    put_before_both area new (set new k b) (b ∷ []) text end m k h p (put_byte new k b m e (omega (arith, p.begins)))

-- ---- the digits of a number

-- the last one, and whoever writes those of the tenth before it has written the number
pub digits_left : (area new : List ℕ) (v to end r : ℕ) → 10 ≤ v → to + 1 ≡ end → end ≤ length area
    → PutBefore (set area to (digit (v % 10))) new (digits (v / 10)) to r → PutBefore area new (digits v) end r
digits_left area new v to end r l e h p =
    rw (digits_more v l) (put_before_both area _ new (digits (v / 10)) (digit (v % 10) ∷ []) end to r h (put_byte area to _ end e h) p)

pub digit_first : (area : List ℕ) (v to end : ℕ) → v < 10 → to + 1 ≡ end → end ≤ length area
    → PutBefore area (set area to (digit (v % 10))) (digits v) end to
digit_first area v to end l e h =
    let s : v % 10 ≡ v = omega arith in
    rw (digits_one v l, s) (put_byte area to (digit v) end e h)

-- ---- a line

-- from its last byte back: CRLF, the member, a comma, the load, a comma, the time
pub line_put : (r : Told) (area new new2 new3 : List ℕ) (end m k s : ℕ) → length (line_text r) ≤ end → end ≤ length area
    → PutBefore (set (set area (end - 1) 10) (end - 2) 13) new (digits r.member) (end - 2) m
    → PutBefore (set new (m - 1) 44) new2 (load_text r.load) (m - 1) k
    → PutBefore (set new2 (k - 1) 44) new3 (digits r.time) (k - 1) s
    → PutBefore area new3 (line_text r) end s
line_put r area new new2 new3 end m k s h l p q t =
    let n = length_line r in
    let ends = byte_before area _ line_feed end (end - 1) (end - 2) 13 l (omega arith)
    (byte_before area area [] end end (end - 1) 10 l (omega arith) (put_nothing area end)) in
    let member = byte_before area new _ end m (m - 1) 44 l (omega (arith, p.begins))
    (put_before_both area _ new _ line_end end (end - 2) m l ends p) in
    let load = byte_before area new2 _ end k (k - 1) 44 l (omega (arith, p.begins, q.begins))
    (put_before_both area _ new2 _ _ end (m - 1) k l member q) in
    rw (line_parts r) (put_before_both area _ new3 _ _ end (k - 1) s l load t)
  where
    line_feed : List ℕ
    line_feed = 10 ∷ []

-- ---- the header

-- CR and LF after it
pub heading_put : (s : List ℕ) → 18 ≤ length s → set (set (splice s 0 heading) 16 13) 17 10 ≡ splice s 0 head_text
heading_put s h =
    ap (λ (t : List ℕ). set t 17 10) (byte_after heading 16 13 refl (omega arith)) ∙ byte_after (heading ++ (13 ∷ [])) 17 10 refl (omega arith)
  where
    byte_after : (p : List ℕ) (k b : ℕ) → 0 + length p ≡ k → k < length s → set (splice s 0 p) k b ≡ splice s 0 (p ++ (b ∷ []))
    byte_after p k b e l =
        let n = length_splice s 0 p (omega arith) in
        byte_stored (splice s 0 p) k b (omega arith) ∙ splice_next s 0 p k (b ∷ []) e (omega arith)
