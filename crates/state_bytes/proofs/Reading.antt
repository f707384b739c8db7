-- The state is read from its bytes field by field, and read back from what was written. Assumes nothing.
use mathlib.Core.Path.{◌≡◌, refl, sym, ap, ◌∙◌}
use mathlib.Core.List.{List, [], ◌∷◌, append-nil, append_assoc}
use Prim.Native.Nat.{ℕ, ◌+◌, ◌*◌, ◌^◌, ◌<◌}
use native.Mathlib.Omega.{arith}
use lib.IntN.{pos}
use lib.ListN.{length, get_or, length-append}
use lib.Signed.{mag}
use Rattle.codec.specs.Area.{part}
use Rattle.codec.specs.Number.{le, bytes, number_at}
use Rattle.codec.proofs.Numbers.{length_bytes, le_bytes}
use Rattle.form.specs.declared.Form.{Form}
use Rattle.form.specs.declared.Form.TheVariants.{Old, New}
use Rattle.form.specs.Forms.{pointer_width}
use Rattle.skiplist.specs.declared.Pointer.{Pointer}
use Rattle.skiplist.specs.PointerBytes.{pointers_bytes, pointers_at}
use Rattle.skiplist.proofs.Pointers.{PointerFits, pointers_decoded}
use Rattle.header.proofs.Fields.{joined, start_of, field_read}
use Rattle.store.specs.declared.OldState.{OldState}
use Rattle.store.specs.declared.State.{State}
use Rattle.loads.specs.Signed.{load_bytes, loads_bytes, load_at, loads_at}
use Rattle.state_bytes.specs.StateBytes.{live_width, heads_from, loads_from, area_length}
use Rattle.state_bytes.specs.StateBytes.{bytes_in, state_bytes, old_state_bytes, state_as, state_in, old_state_in}
use Rattle.loads.proofs.Loads.{length_load, length_loads, load_read, loads_read}
use Rattle.state_bytes.proofs.Writing.{heads_length}

-- a state whose every field is what stands in the area
pub read : (f : Form) (b : List ℕ) (s : State) → s.oldest ≡ number_at b 0 4 → s.current ≡ number_at b 4 4 → s.count ≡ number_at b 8 2
    → s.buckets ≡ number_at b 10 1 → s.next ≡ number_at b 11 8 → s.heads ≡ pointers_at f b (heads_from f)
    → s.loads ≡ loads_at b (loads_from f) 13 → s.page ≡ part b (loads_from f + 52) 512 → s.bloom ≡ part b (loads_from f + 564) 128
    → s.start ≡ number_at b (loads_from f + 692) 8 → s.low ≡ load_at b (loads_from f + 700) → s.high ≡ load_at b (loads_from f + 704)
    → s ≡ state_as f b
unfolding state_as
read f b s e1 e2 e3 e4 e5 e6 e7 e8 e9 e10 e11 e12 =
    rw (← e1, ← e2, ← e3, ← e4, ← e5, ← e6, ← e7, ← e8, ← e9, ← e10, ← e11, ← e12)

pub old_read : (b : List ℕ) (s : State) (live : ℕ) → s ≡ state_as Old b → live ≡ number_at b 19 8
    → ◌≡◌ {A = OldState} (record { state = s; live = live }) (old_state_in b)
unfolding old_state_in
old_read b s live e f = rw (e, f)

-- ---- the whole state

-- every field fits its bytes, as the type of the state says; in form 0 a head's serial is 0
pub record Held (f : Form) (s : State) (a b c d : Pointer) : Type 0 where
  pub oldest : s.oldest < 256 ^ 4
  pub current : s.current < 256 ^ 4
  pub count : s.count < 256 ^ 2
  pub buckets : s.buckets < 256 ^ 1
  pub next : s.next < 256 ^ 8
  pub heads : s.heads ≡ a ∷ b ∷ c ∷ d ∷ []
  pub head_fits : PointerFits f a × PointerFits f b × PointerFits f c × PointerFits f d
  pub loads : length s.loads ≡ 13
  pub load_fits : (i : ℕ) → mag (get_or s.loads i (pos 0)) < 2 ^ 31
  pub page : length s.page ≡ 512
  pub bloom : length s.bloom ≡ 128
  pub start : s.start < 256 ^ 8
  pub low : mag s.low < 2 ^ 31
  pub high : mag s.high < 2 ^ 31

module _ (f : Form) (live : List ℕ) (wide : length live ≡ live_width f) (s : State) (a b c d : Pointer) (h : Held f s a b c d) where
  abbrev fields : List (List ℕ)
  fields =
      bytes 4 s.oldest ∷ bytes 4 s.current ∷ bytes 2 s.count ∷ bytes 1 s.buckets ∷ bytes 8 s.next ∷ live
      ∷ pointers_bytes f s.heads ∷ loads_bytes s.loads ∷ s.page ∷ s.bloom ∷ bytes 8 s.start ∷ load_bytes s.low
      ∷ load_bytes s.high ∷ []

  abbrev whole : List ℕ
  whole = bytes_in f live s

  side : joined fields [] ≡ whole
  unfolding bytes_in
  side = simp (append_assoc, append-nil)

  -- field k stands at `at`, n bytes long
  stands : (k at n : ℕ) (p : List ℕ) → k < length fields → get_or fields k [] ≡ p → start_of fields k ≡ at → length p ≡ n
      → part whole at n ≡ p
  stands k at n p l e q w =
      ap (λ b. part b at n) (sym side)
      ∙ rw (← q, ← w, ← e) (field_read fields [] k l)

  number : (k at n v : ℕ) → k < length fields → get_or fields k [] ≡ bytes n v → start_of fields k ≡ at → v < 256 ^ n
      → number_at whole at n ≡ v
  number k at n v l e p f = ap le (stands k at n (bytes n v) l e p (length_bytes n v)) ∙ le_bytes n v f

  heads_bytes : length (pointers_bytes f s.heads) ≡ 4 * pointer_width f
  heads_bytes = heads_length f s.heads (ap length h.heads)

  loads_bytes_lem : length (loads_bytes s.loads) ≡ 52
  loads_bytes_lem = length_loads s.loads ∙ omega (arith, h.loads)

  pub bytes_length : length whole ≡ area_length f
  unfolding bytes_in
  bytes_length =
      simp (length-append, length_bytes, length_load, heads_bytes, loads_bytes_lem, h.page, h.bloom, wide) (omega arith)

  pub live_back : part whole 19 (live_width f) ≡ live
  unfolding bytes
  live_back = stands 5 19 (live_width f) live (omega arith) refl refl wide

  pub fields_back : state_as f whole ≡ s
  unfolding bytes load_bytes
  fields_back =
      let lv = wide in
      let lh = heads_bytes in
      let ll = loads_bytes_lem in
      let lp = h.page in
      let lb = h.bloom in
      let at : ℕ = loads_from f in
      sym (read f whole s
      (sym (number 0 0 4 s.oldest (omega arith) refl refl h.oldest))
      (sym (number 1 4 4 s.current (omega arith) refl refl h.current))
      (sym (number 2 8 2 s.count (omega arith) refl refl h.count))
      (sym (number 3 10 1 s.buckets (omega arith) refl refl h.buckets))
      (sym (number 4 11 8 s.next (omega arith) refl refl h.next))
      (h.heads ∙ sym (pointers_decoded f whole (heads_from f) a b c d h.head_fits.0 h.head_fits.1 h.head_fits.2 h.head_fits.3
      (omega (arith, bytes_length))
      (stands 6 (heads_from f) (4 * pointer_width f) (pointers_bytes f s.heads) (omega arith) refl (omega arith) lh
      ∙ ap (pointers_bytes f) h.heads)))
      (sym (ap (loads_at whole at) (sym h.loads) ∙ loads_read whole at s.loads h.load_fits
      (omega (arith, bytes_length, h.loads))
      (stands 7 at (4 * length s.loads) (loads_bytes s.loads) (omega arith) refl (omega arith) (length_loads s.loads))))
      (sym (stands 8 (at + 52) 512 s.page (omega arith) refl (omega arith) h.page))
      (sym (stands 9 (at + 564) 128 s.bloom (omega arith) refl (omega arith) h.bloom))
      (sym (number 10 (at + 692) 8 s.start (omega arith) refl (omega arith) h.start))
      (sym (load_read whole (at + 700) s.low h.low
      (stands 11 (at + 700) 4 (load_bytes s.low) (omega arith) refl (omega arith) (length_load s.low))))
      (sym (load_read whole (at + 704) s.high h.high
      (stands 12 (at + 704) 4 (load_bytes s.high) (omega arith) refl (omega arith) (length_load s.high)))))

module _ (s : State) (a b c d : Pointer) (h : Held New s a b c d) where
  pub state_length : length (state_bytes s) ≡ 783
  unfolding state_bytes
  state_length = bytes_length New [] refl s a b c d h

  pub state_back : state_in (state_bytes s) ≡ s
  unfolding state_bytes state_in
  state_back = fields_back New [] refl s a b c d h

module _ (o : OldState) (a b c d : Pointer) (h : Held Old o.state a b c d) where
  pub old_state_length : length (old_state_bytes o) ≡ 775
  unfolding old_state_bytes
  old_state_length = bytes_length Old (bytes 8 o.live) (length_bytes 8 o.live) o.state a b c d h

  pub old_state_back : o.live < 256 ^ 8 → old_state_in (old_state_bytes o) ≡ o
  unfolding old_state_bytes old_state_in
  old_state_back l =
      let w = length_bytes 8 o.live in
      let live = bytes 8 o.live in
      let e = live_back Old live w o.state a b c d h in
      rw (fields_back Old live w o.state a b c d h, e, le_bytes 8 o.live l)
