-- A record read back is what was written, and written back is what was read: its fields are parts side by side. Assumes nothing.
use mathlib.Core.Path.{◌≡◌, refl, sym, ap, ap₂, ◌∙◌}
use mathlib.Core.List.{List, [], ◌++◌, append_assoc}
use Prim.Native.Nat.{ℕ, ◌+◌, ◌^◌, ◌≤◌, ◌<◌}
use native.Mathlib.Omega.{arith}
use lib.ListN.{length, take, get_or, length-append}
use lib.Seq.{take_at, take_all, drop_at}
use Rattle.codec.specs.Area.{part, splice}
use Rattle.codec.specs.Number.{le, bytes}
use Rattle.codec.proofs.Areas.{part_add, part_part, part_splice, length_splice, splice_next}
use Rattle.codec.proofs.Numbers.{length_bytes, le_bytes, put_get}
use Rattle.lift.specs.Record.{record_bytes, time_at, code_at, note_at}

pub length_record : (time code : ℕ) (note : List ℕ) → length note ≡ 20 → length (record_bytes time code note) ≡ 32
unfolding record_bytes
length_record time code note e = simp (length-append, length_bytes, e)

-- the middle of three lists side by side
middle : (a b c : List ℕ) (i n : ℕ) → length a ≡ i → length b ≡ n → part (a ++ (b ++ c)) i n ≡ b
unfolding part
middle a b c i n ea eb = ap (take n) (drop_at a (b ++ c) i ea) ∙ take_at b c n eb

-- the record in an area from `at` has this time, this load as stored and this note
pub record Holds (area : List ℕ) (at time code : ℕ) (note : List ℕ) : Type 0 where
  pub time_is : time_at area at ≡ time
  pub code_is : code_at area at ≡ code
  pub note_is : note_at area at ≡ note

module _ (time code : ℕ) (note : List ℕ) (bt : time < 256 ^ 8) (bc : code < 256 ^ 4) (en : length note ≡ 20) where
  read_alone : Holds (record_bytes time code note) 0 time code note
  unfolding record_bytes part
  read_alone =
      let l : length (bytes 8 time ++ bytes 4 code) ≡ 12 = simp (length-append, length_bytes) in
      record {
        time_is = ap le (middle [] (bytes 8 time) (bytes 4 code ++ note) 0 8 refl (length_bytes 8 time)) ∙ le_bytes 8 time bt;
        code_is =
            ap le (middle (bytes 8 time) (bytes 4 code) note 8 4 (length_bytes 8 time) (length_bytes 4 code))
            ∙ le_bytes 4 code bc;
        note_is =
            rw (← append_assoc (bytes 8 time) (bytes 4 code) note, drop_at (bytes 8 time ++ bytes 4 code) note 12 l)
            (take_all 20 note (omega arith));
      }

  -- an area whose 32 bytes from `at` are the record
  pub record_read : (s : List ℕ) (at : ℕ) → at + 32 ≤ length s → part s at 32 ≡ record_bytes time code note
      → Holds s at time code note
  record_read s at h e =
      let r = read_alone in
      let z : at + 0 ≡ at = omega arith in
      let field : (i n : ℕ) → i + n ≤ 32 → part s (at + i) n ≡ part (record_bytes time code note) i n =
      λ i n l. sym (part_part s at 32 i n h l) ∙ ap (λ (p : List ℕ). part p i n) e in
      record {
        time_is = ap (λ (j : ℕ). time_at s j) (sym z) ∙ ap le (field 0 8 (omega arith)) ∙ r.time_is;
        code_is = ap le (field 8 4 (omega arith)) ∙ r.code_is;
        note_is = field 12 20 (omega arith) ∙ r.note_is;
      }

  -- what was written is what is read
  pub record_written : (s : List ℕ) (at : ℕ) → at + 32 ≤ length s
      → Holds (splice s at (record_bytes time code note)) at time code note
  record_written s at h =
      let l = length_record time code note en in
      let p : List ℕ = record_bytes time code note in
      let k : at + length p ≤ length s = omega arith in
      let m = length_splice s at p k in
      record_read (splice s at p) at (omega arith) (part_splice s at p k 32 l)

-- what was read, written, gives the same bytes
pub record_rewritten : (s : List ℕ) (at : ℕ) → at + 32 ≤ length s → ((i : ℕ) → get_or s i 0 < 256)
    → record_bytes (time_at s at) (code_at s at) (note_at s at) ≡ part s at 32
unfolding record_bytes
record_rewritten s at h b =
    ap₂ ◌++◌ (put_get s at 8 (omega arith) b) (ap (λ (p : List ℕ). p ++ note_at s at) (put_get s (at + 8) 4 (omega arith) b))
    ∙ ap (λ (p : List ℕ). part s at 8 ++ p) (ap (λ (j : ℕ). part s (at + 8) 4 ++ part s j 20) e ∙ sym (part_add s (at + 8) 4 20))
    ∙ sym (part_add s at 8 24)
  where
    e : at + 12 ≡ at + 8 + 4
    e = omega arith

-- the three fields written side by side are the record written
pub record_steps : (s p q r : List ℕ) (at time code : ℕ) (note : List ℕ) → at + 32 ≤ length s
    → p ≡ splice s at (bytes 8 time) → q ≡ splice p (at + 8) (bytes 4 code) → r ≡ splice q (at + 12) note
    → r ≡ splice s at (record_bytes time code note)
unfolding record_bytes
record_steps s p q r at time code note h ep eq er =
    let l : length (bytes 8 time) ≡ 8 = length_bytes 8 time in
    let m : length (bytes 8 time ++ bytes 4 code) ≡ 12 = simp (length-append, length_bytes) in
    let n = splice_next s at (bytes 8 time) (at + 8) (bytes 4 code) (omega arith) (omega arith) in
    rw (er, eq, ep)
    (ap (λ (t : List ℕ). splice t (at + 12) note) n
    ∙ splice_next s at (bytes 8 time ++ bytes 4 code) (at + 12) note (omega arith) (omega arith)
    ∙ ap (splice s at) (append_assoc (bytes 8 time) (bytes 4 code) note))
