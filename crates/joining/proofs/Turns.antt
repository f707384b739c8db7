-- The turns of a look through one set: each leads to the same end. Assumes nothing.
use mathlib.Core.Path.{◌≡◌, refl, sym, ap, ◌∙◌}
use mathlib.Core.Bool.{Bool, true, false, cond}
use mathlib.Core.Option.{Option, none}
use mathlib.Core.List.{List, [], ◌∷◌, ◌++◌, append_assoc}
use Prim.Native.Nat.{ℕ, ◌-◌, ◌≤◌, ◌<◌}
use borrow.Author.Tests.{le-leb, lt-leb, lt-ltb, le-ltb, eq-eqb, ne_eqb}
use Rattle.bitset.specs.declared.Bits.{Bits}
use Rattle.bitset.specs.Inner.Words.{has, members, without}
use Rattle.bitset.proofs.Emptying.{place_in, members_without}
use Rattle.joining.specs.declared.look.Fit.{Fit}
use Rattle.joining.specs.declared.look.Fit.TheVariants.{Behind, Ahead, Joins, Other}
use Rattle.joining.specs.declared.look.End.TheVariants.{Found, Late, Through}
use Rattle.joining.specs.declared.look.Sought.{Sought}
use Rattle.joining.specs.Inner.Looking.{fit_of, ends_by, ends, taken_by, taken_of, left_by, left_of, Looks, Looked}

-- ---- what a lift is, by the tests

module _ (s : Sought) (t time : ℕ) (e : t ≡ time) where
  pub made_behind : (member : ℕ) → t ≤ s.time → Behind ≡ fit_of s time member
  unfolding fit_of
  made_behind member h = rw (← e, le-leb t s.time h)

  pub made_ahead : (member : ℕ) → s.time < t → 30000 < t - s.time → Ahead ≡ fit_of s time member
  unfolding fit_of
  made_ahead member h k = rw (← e, lt-leb t s.time h, lt-ltb 30000 (t - s.time) k)

  module _ (h : s.time < t) (k : t - s.time ≤ 30000) (m member : ℕ) (d : m ≡ member) where
    pub made_joins : m ≡ s.member → Joins ≡ fit_of s time member
    unfolding fit_of
    made_joins w = rw (← e, ← d, lt-leb t s.time h, le-ltb 30000 (t - s.time) k, eq-eqb m s.member w)

    pub made_other : (m ≡ s.member → ⊥) → Other ≡ fit_of s time member
    unfolding fit_of
    made_other w = rw (← e, ← d, lt-leb t s.time h, le-ltb 30000 (t - s.time) k, ne_eqb m s.member w)

-- ---- a look begins

pub look_begun : (rising : Bool) (fit : ℕ → Fit) (set : Bits)
    → Looks rising fit (left_of rising fit (members set.words)) (taken_of rising fit (members set.words)) (ends rising fit (members set.words)) set (members set.words)
look_begun rising fit set = record { kept = []; are = refl; left_is = refl; taken_is = refl; last_is = refl }

-- ---- one place on

-- what a look comes to, by what the lift at the next place is
record Opened (rising : Bool) (fit : ℕ → Fit) (left : List ℕ) (taken : Option ℕ) (last : Bool) (free : Bits) (f : Fit) (p : ℕ) (rest : List ℕ)
    : Type 0 where
  kept : List ℕ
  are : members free.words ≡ kept ++ (p ∷ rest)
  left_is : kept ++ left_by rising fit f p rest (left_of rising fit rest) ≡ left
  taken_is : taken_by rising fit f p (taken_of rising fit rest) ≡ taken
  last_is : ends_by rising fit f (ends rising fit rest) ≡ last

module _ (rising : Bool) (fit : ℕ → Fit) (left : List ℕ) (taken : Option ℕ) (last : Bool) (free : Bits) (here : List ℕ)
    (l : Looks rising fit left taken last free here) where
  -- the set is looked through
  pub look_through : here ≡ [] → Looked rising fit left taken last (record { left = free; end = Through })
  unfolding left_of taken_of ends
  look_through z =
      record {
        left_is = l.are ∙ ap (λ (ps : List ℕ). l.kept ++ ps) z ∙ rw z at l.left_is;
        taken_is = rw z at l.taken_is;
        last_is = rw z at l.last_is;
      }

  module _ (p : ℕ) (rest : List ℕ) (m : here ≡ p ∷ rest) where
    opened : (f : Fit) → fit p ≡ f → Opened rising fit left taken last free f p rest
    unfolding left_of taken_of ends
    opened f d =
        record {
          kept = l.kept;
          are = l.are ∙ ap (λ (ps : List ℕ). l.kept ++ ps) m;
          left_is = rw (m, d) at l.left_is;
          taken_is = rw (m, d) at l.taken_is;
          last_is = rw (m, d) at l.last_is;
        }

    -- the next place is among those that are left
    pub next_left : (p < 320) × (has free.words p ≡ true)
    next_left = place_in free.words p l.kept rest (l.are ∙ ap (λ (ps : List ℕ). l.kept ++ ps) m)

    -- it stays free
    stays : (f : Fit) → fit p ≡ f → ((more : List ℕ) → left_by rising fit f p rest more ≡ p ∷ more)
        → ((o : Option ℕ) → taken_by rising fit f p o ≡ o) → ((b : Bool) → ends_by rising fit f b ≡ b)
        → Looks rising fit left taken last free rest
    stays f d left-on taken-on ends_on =
        let o = opened f d in
        record {
          kept = o.kept ++ (p ∷ []);
          are = o.are ∙ sym (append_assoc o.kept (p ∷ []) rest);
          left_is =
              append_assoc o.kept (p ∷ []) (left_of rising fit rest)
              ∙ ap (λ (ps : List ℕ). o.kept ++ ps) (sym (left-on (left_of rising fit rest))) ∙ o.left_is;
          taken_is = sym (taken-on (taken_of rising fit rest)) ∙ o.taken_is;
          last_is = sym (ends_on (ends rising fit rest)) ∙ o.last_is;
        }

    pub look_other : fit p ≡ Other → Looks rising fit left taken last free rest
    look_other d = stays Other d (λ more. refl) (λ o. refl) (λ b. refl)

    pub look_behind : rising ≡ false → fit p ≡ Behind → Looks rising fit left taken last free rest
    look_behind r d = stays Behind d (λ more. rw r) (λ o. refl) (λ b. refl)

    pub look_ahead : rising ≡ false → fit p ≡ Ahead → Looks rising fit left taken last free rest
    look_ahead r d = stays Ahead d (λ more. rw r) (λ o. rw r) (λ b. rw r)

    -- it is taken, or left out
    module _ (w : Bits) (w_is : w.words ≡ without free.words p) where
      out : (kept : List ℕ) → members free.words ≡ kept ++ (p ∷ rest) → members w.words ≡ kept ++ rest
      out kept are = ap members w_is ∙ members_without free.words p kept rest are

      pub look_joins : fit p ≡ Joins → Looked rising fit left taken last (record { left = w; end = Found p })
      look_joins d =
          let o = opened Joins d in
          record { left_is = out o.kept o.are ∙ o.left_is; taken_is = o.taken_is; last_is = o.last_is }

      pub look_dropped : rising ≡ true → fit p ≡ Behind → Looks rising fit left taken last w rest
      look_dropped r d =
          let o = opened Behind d in
          record {
            kept = o.kept;
            are = out o.kept o.are;
            left_is =
                ap (λ (b : Bool). o.kept ++ cond b (left_of rising fit rest) (p ∷ left_of rising fit rest)) (sym r) ∙ o.left_is;
            taken_is = o.taken_is;
            last_is = o.last_is;
          }

    -- it is too late
    pub look_late : rising ≡ true → fit p ≡ Ahead → Looked rising fit left taken last (record { left = free; end = Late })
    look_late r d =
        let o = opened Ahead d in
        record {
          left_is =
              o.are ∙ ap (λ (b : Bool). o.kept ++ (p ∷ cond b rest (left_of rising fit rest))) (sym r) ∙ o.left_is;
          taken_is = ap (λ (b : Bool). cond b none (taken_of rising fit rest)) (sym r) ∙ o.taken_is;
          last_is = ap (λ (b : Bool). cond b true (ends rising fit rest)) (sym r) ∙ o.last_is;
        }
