-- The state written field by field: writes side by side are one write. Assumes nothing.
use mathlib.Core.Path.{◌≡◌, refl, sym, ap, ◌∙◌}
use mathlib.Core.List.{List, [], ◌∷◌, ◌++◌, append_assoc, append-nil, map}
use Prim.Native.Nat.{ℕ, ◌+◌, ◌*◌, ◌≤◌}
use native.Mathlib.Omega.{arith}
use lib.IntN.{ℤ}
use lib.ListN.{length, length-append, length-map}
use Rattle.codec.specs.Area.{part, splice}
use Rattle.codec.specs.Number.{bytes}
use Rattle.codec.proofs.Areas.{length_part, part_before, part_after, part_splice, length_splice, splice_part, splice_all}
use Rattle.codec.proofs.Numbers.{length_bytes}
use Rattle.form.specs.declared.Form.{Form}
use Rattle.form.specs.declared.Form.TheVariants.{Old, New}
use Rattle.form.specs.Forms.{pointer_width}
use Rattle.skiplist.specs.declared.Pointer.{Pointer}
use Rattle.skiplist.specs.PointerBytes.{pointers_bytes}
use Rattle.skiplist.proofs.Pointers.{length_pointers}
use Rattle.header.proofs.Fields.{fields_put}
use Rattle.store.specs.declared.OldState.{OldState}
use Rattle.store.specs.declared.State.{State}
use Rattle.loads.specs.Signed.{load_bytes, loads_bytes}
use Rattle.loads.proofs.SideBySide.{more}
use Rattle.loads.proofs.Loads.{length_load, length_loads}
use Rattle.state_bytes.specs.declared.pieces.Counters.{Counters}
use Rattle.state_bytes.specs.declared.pieces.Span.{Span}
use Rattle.state_bytes.specs.StateBytes.{live_width, heads_from, loads_from, area_length}
use Rattle.state_bytes.specs.StateBytes.{bytes_in, state_bytes, old_state_bytes}
use Rattle.state_bytes.specs.Inner.Fields.{counters_of, span_of, counters_bytes, span_bytes, fields_bytes, fields_kept}

-- ---- lengths

pub length_counters : (c : Counters) → length (counters_bytes c) ≡ 19
unfolding counters_bytes
length_counters c = simp (length-append, length_bytes)

pub length_span : (s : Span) → length (span_bytes s) ≡ 16
unfolding span_bytes
length_span s = simp (length-append, length_bytes, length_load)

-- ---- groups of fields

pub counters_put : (s s1 s2 s3 s4 s5 : List ℕ) (t : Counters) → 19 ≤ length s → s1 ≡ splice s 0 (bytes 4 t.oldest)
    → s2 ≡ splice s1 4 (bytes 4 t.current) → s3 ≡ splice s2 8 (bytes 2 t.count) → s4 ≡ splice s3 10 (bytes 1 t.buckets)
    → s5 ≡ splice s4 11 (bytes 8 t.next) → s5 ≡ splice s 0 (counters_bytes t)
unfolding counters_bytes bytes
counters_put s s1 s2 s3 s4 s5 t room e1 e2 e3 e4 e5 =
    rw (e5, e4, e3, e2, e1)
    (fields_put s 0 (bytes 4 t.oldest ∷ bytes 4 t.current ∷ bytes 2 t.count ∷ bytes 1 t.buckets ∷ [])
    (bytes 8 t.next) room)

pub span_put : (s s1 s2 s3 : List ℕ) (at : ℕ) (t : Span) (low high : ℤ) → at + 16 ≤ length s → low ≡ t.low → high ≡ t.high
    → s1 ≡ splice s at (bytes 8 t.start) → s2 ≡ splice s1 (at + 8) (load_bytes low) → s3 ≡ splice s2 (at + 12) (load_bytes high)
    → s3 ≡ splice s at (span_bytes t)
unfolding span_bytes load_bytes bytes
span_put s s1 s2 s3 at t low high room el eh e1 e2 e3 =
    let z : at + 12 ≡ at + 8 + 4 = omega arith in
    rw (e3, e2, e1, el, eh, z) (fields_put s at (bytes 8 t.start ∷ load_bytes t.low ∷ []) (load_bytes t.high) room)

-- ---- the state

-- a field's array is as long as the type says
pub field_length : {X Y : Type 0} (f : X → Y) (l : List X) (n : ℕ) → length (map f l) ≡ n → length l ≡ n
field_length f l n e = sym (length-map l f) ∙ e

-- a part behind a write that stays counts as written
stays : (s t p : List ℕ) (to n : ℕ) → t ≡ splice s 0 p → length p ≡ to → to + n ≤ length s → t ≡ splice s 0 (p ++ part s to n)
stays s t p to n e h l =
    let q : part t to n ≡ part s to n =
    ap (λ u. part u to n) e ∙ part_after s 0 p (omega arith) to n (omega arith) (omega arith) in
    let m : length t ≡ length s = ap length e ∙ length_splice s 0 p (omega arith) in
    let g : t ≡ splice t to (part s to n) = sym (splice_part t to n (omega arith)) ∙ ap (splice t to) q in
    let k = length_part s to n l in
    more s t t 0 p to (part s to n) e g (omega arith) (omega arith)

module _ (f : Form) where
  pub fields_flat : (live : List ℕ) (t : State)
      → fields_bytes f live (counters_of t) t.heads t.loads t.page t.bloom (span_of t) ≡ bytes_in f live t
  unfolding bytes_in fields_bytes counters_bytes span_bytes
  fields_flat live t = simp append_assoc

  pub same_fields : (live live' : List ℕ) (c c' : Counters) (heads heads' : List Pointer) (loads loads' : List ℤ)
      (page page' section section' : List ℕ) (s s' : Span) → live ≡ live' → c ≡ c' → heads ≡ heads' → loads ≡ loads' → page ≡ page'
      → section ≡ section' → s ≡ s'
      → fields_bytes f live c heads loads page section s ≡ fields_bytes f live' c' heads' loads' page' section' s'
  same_fields live live' c c' heads heads' loads loads' page page' section section' s s' e1 e2 e3 e4 e5 e6 e7 =
      rw (e1, e2, e3, e4, e5, e6, e7)

  pub heads_length : (heads : List Pointer) → length heads ≡ 4 → length (pointers_bytes f heads) ≡ 4 * pointer_width f
  heads_length heads l = length_pointers f heads ∙ ap (λ (n : ℕ). n * pointer_width f) l

  -- five groups of fields around the oldest live time and the page buffer, which stay
  pub around_put : (s s1 s2 s3 s4 s5 : List ℕ) (first at : ℕ) (c : Counters) (heads : List Pointer) (loads : List ℤ)
      (section : List ℕ) (span : Span) → length s ≡ area_length f → first ≡ heads_from f → at ≡ loads_from f → length heads ≡ 4
      → length loads ≡ 13 → length section ≡ 128 → s1 ≡ splice s 0 (counters_bytes c)
      → s2 ≡ splice s1 first (pointers_bytes f heads) → s3 ≡ splice s2 at (loads_bytes loads) → s4 ≡ splice s3 (at + 564) section
      → s5 ≡ splice s4 (at + 692) (span_bytes span)
      → s5 ≡ fields_bytes f (part s 19 (live_width f)) c heads loads (part s (loads_from f + 52) 512) section span
  unfolding fields_bytes
  around_put s s1 s2 s3 s4 s5 first at c heads loads section span l ef ea lh ll lb e1 e2 e3 e4 e5 =
      let A = counters_bytes c in
      let L = part s 19 (live_width f) in
      let B = pointers_bytes f heads in
      let C = loads_bytes loads in
      let P = part s (loads_from f + 52) 512 in
      let a = length_counters c in
      let v : length L ≡ live_width f = length_part s 19 (live_width f) (omega arith) in
      let b = heads_length heads lh in
      let k : length C ≡ 52 = length_loads loads ∙ omega arith in
      let p : length P ≡ 512 = length_part s (loads_from f + 52) 512 (omega arith) in
      let g = length_span span in
      let n1 = length-append A L in
      let n2 = length-append (A ++ L) B in
      let n3 = length-append ((A ++ L) ++ B) C in
      let n4 = length-append (((A ++ L) ++ B) ++ C) P in
      let n5 = length-append ((((A ++ L) ++ B) ++ C) ++ P) section in
      let n6 = length-append (((((A ++ L) ++ B) ++ C) ++ P) ++ section) (span_bytes span) in
      let f1 = stays s s1 A 19 (live_width f) e1 a (omega arith) in
      let f2 = more s s1 s2 0 (A ++ L) first B f1 e2 (omega arith) (omega arith) in
      let f3 = more s s2 s3 0 ((A ++ L) ++ B) at C f2 e3 (omega arith) (omega arith) in
      let f4 = stays s s3 (((A ++ L) ++ B) ++ C) (loads_from f + 52) 512 f3 (omega arith) (omega arith) in
      let f5 = more s s3 s4 0 ((((A ++ L) ++ B) ++ C) ++ P) (at + 564) section f4 e4 (omega arith) (omega arith) in
      let f6 = more s s4 s5 0 (((((A ++ L) ++ B) ++ C) ++ P) ++ section) (at + 692) (span_bytes span) f5 e5 (omega arith) (omega arith) in
      f6 ∙ splice_all s _ (omega arith)

  -- the page buffer, then the fields around it
  pub fields_written : (s s1 s2 : List ℕ) (at : ℕ) (t : State) (low high : ℤ) → length s ≡ area_length f → at ≡ loads_from f
      → length t.page ≡ 512 → low ≡ t.low → high ≡ t.high → s1 ≡ splice s (at + 52) t.page
      → s2 ≡ fields_bytes f (part s1 19 (live_width f)) (counters_of t) t.heads t.loads (part s1 (loads_from f + 52) 512) t.bloom
      (record { start = t.start; low = low; high = high }) → s2 ≡ bytes_in f (part s 19 (live_width f)) t
  fields_written s s1 s2 at t low high l ea lp el eh e d =
      let e' : s1 ≡ splice s (loads_from f + 52) t.page = e ∙ ap (λ (n : ℕ). splice s (n + 52) t.page) ea in
      let p : part s1 (loads_from f + 52) 512 ≡ t.page =
      ap (λ u. part u (loads_from f + 52) 512) e' ∙ part_splice s (loads_from f + 52) t.page (omega arith) 512 lp in
      let v : part s1 19 (live_width f) ≡ part s 19 (live_width f) =
      ap (λ u. part u 19 (live_width f)) e'
      ∙ part_before s (loads_from f + 52) t.page (omega arith) 19 (live_width f) (omega arith) in
      let g : ◌≡◌ {A = Span} (record { start = t.start; low = low; high = high }) (span_of t) = rw (el, eh) in
      d ∙ same_fields _ _ _ _ _ _ _ _ _ _ _ _ _ _ v refl refl refl p refl g ∙ fields_flat _ t

-- three groups of fields around the heads and the buffers, which stay; in form 1
pub rest_put : (s s1 s2 s3 : List ℕ) (c : Counters) (loads : List ℤ) (span : Span) → length s ≡ 783 → length loads ≡ 13
    → s1 ≡ splice s 0 (counters_bytes c) → s2 ≡ splice s1 75 (loads_bytes loads) → s3 ≡ splice s2 767 (span_bytes span)
    → s3 ≡ fields_kept (part s 19 56) c loads (part s 127 512) (part s 639 128) span
unfolding fields_kept
rest_put s s1 s2 s3 c loads span l ll e1 e2 e3 =
    let A = counters_bytes c in
    let H = part s 19 56 in
    let C = loads_bytes loads in
    let P = part s 127 512 in
    let B = part s 639 128 in
    let a : length (A ++ []) ≡ 19 = length-append A [] ∙ omega (arith, length_counters c) in
    let h : length H ≡ 56 = length_part s 19 56 (omega arith) in
    let k : length C ≡ 52 = length_loads loads ∙ omega arith in
    let p : length P ≡ 512 = length_part s 127 512 (omega arith) in
    let b : length B ≡ 128 = length_part s 639 128 (omega arith) in
    let g = length_span span in
    let n1 = length-append (A ++ []) H in
    let n2 = length-append ((A ++ []) ++ H) C in
    let n3 = length-append (((A ++ []) ++ H) ++ C) P in
    let n4 = length-append ((((A ++ []) ++ H) ++ C) ++ P) B in
    let n5 = length-append (((((A ++ []) ++ H) ++ C) ++ P) ++ B) (span_bytes span) in
    let f1 = stays s s1 (A ++ []) 19 56 (e1 ∙ ap (splice s 0) (sym (append-nil A))) a (omega arith) in
    let f2 = more s s1 s2 0 ((A ++ []) ++ H) 75 C f1 e2 (omega arith) (omega arith) in
    let f3 = stays s s2 (((A ++ []) ++ H) ++ C) 127 512 f2 (omega arith) (omega arith) in
    let f4 = stays s s2 ((((A ++ []) ++ H) ++ C) ++ P) 639 128 f3 (omega arith) (omega arith) in
    let f5 = more s s2 s3 0 (((((A ++ []) ++ H) ++ C) ++ P) ++ B) 767 (span_bytes span) f4 e3 (omega arith) (omega arith) in
    f5 ∙ splice_all s _ (omega arith)

-- they are a state's, where the heads that stand there are its own
pub kept_flat : (heads : List ℕ) (t : State) → heads ≡ pointers_bytes New t.heads
    → fields_kept heads (counters_of t) t.loads t.page t.bloom (span_of t) ≡ state_bytes t
unfolding fields_kept fields_bytes state_bytes
kept_flat heads t e = rw e (fields_flat New [] t)

-- form 0: the oldest live time, then the fields of both forms
pub old_state_put : (s s1 s2 : List ℕ) (o : OldState) → length s ≡ 775 → s1 ≡ splice s 19 (bytes 8 o.live)
    → s2 ≡ bytes_in Old (part s1 19 8) o.state → s2 ≡ old_state_bytes o
unfolding old_state_bytes
old_state_put s s1 s2 o l e1 e2 =
    let n = length_bytes 8 o.live in
    let v : part s1 19 8 ≡ bytes 8 o.live =
    ap (λ u. part u 19 8) e1 ∙ part_splice s 19 (bytes 8 o.live) (omega arith) 8 n in
    e2 ∙ ap (λ live. bytes_in Old live o.state) v
