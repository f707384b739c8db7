-- Counting from segment to segment: each turn leads to the same count. Assumes nothing.
use mathlib.Core.Path.{◌≡◌, refl, sym, ap, ◌∙◌}
use mathlib.Core.Bool.{Bool, true, false}
use mathlib.Core.Option.{Option, none, some}
use mathlib.Core.List.{List, [], ◌∷◌, ◌++◌}
use Prim.Native.Nat.{ℕ, ◌+◌, ◌*◌, ◌≤◌, ◌<◌}
use Rattle.std.specs.Prelude as Std
use Rattle.std.specs.Prelude.{Some, None}
use native.Mathlib.Omega.{arith}
use lib.ListN.{length, length-append}
use Rattle.bitset.specs.Inner.Words.{members}
use Rattle.skiplist.specs.Skip.{Live}
use Rattle.sweep.specs.declared.Sweep.{Sweep}
use Rattle.visit.specs.declared.Closed.{Closed}
use Rattle.visit.specs.declared.Query.{Query}
use Rattle.visit.specs.Visit.{closed_rows, tree_read}
use Rattle.visit.proofs.Areas.{read_most}
use Rattle.walk.specs.declared.Cursor.{Cursor}
use Rattle.walk.specs.declared.Step.TheVariants.{End, Damage, Pass, Visit}
use Rattle.walk.specs.Advance.{advance_of}
use Rattle.walk.specs.Inner.Sound.{Sound}
use Rattle.found.specs.declared.Counted.{Counted}
use Rattle.found.specs.declared.Pages.{Pages}
use Rattle.found.specs.Found.{join_rows}
use Rattle.found.specs.Pages.{Read, bloom_at, bloom_sum, tree_sum}
use Rattle.found.specs.Inner.Turns.{rows_after, count_of, counted_with, with_read, with_pages, read_after, bloom_on, count_after}
use Rattle.found.proofs.Matched.{FewIn, closed_few}
use Rattle.found.proofs.Falling.{pass_facts, visit_facts}
use Rattle.found.proofs.Segments.{rows_end, read_end, rows_damage, rows_pass, read_pass, rows_visit, read_visit}

pub never : {P : Type 0} → true ≡ false → P
never e = let z : ◌≡◌ {A = ℕ} 0 1 = cc in absurd (omega arith)

-- ---- pages

-- those of one segment and then of the others
read_more : (p : Pages) (r : Read) (rs : List Read) → with_read (with_pages p r) rs ≡ with_read p (r ∷ rs)
unfolding bloom_sum tree_sum
read_more p r rs =
    let b : p.bloom + r.bloom + bloom_sum rs ≡ p.bloom + (r.bloom + bloom_sum rs) = omega arith in
    let t : p.tree + r.tree + tree_sum rs ≡ p.tree + (r.tree + tree_sum rs) = omega arith in
    rw (b, t)

pub read_none : (p : Pages) → with_read p [] ≡ p
unfolding bloom_sum tree_sum
read_none p =
    let b : p.bloom + 0 ≡ p.bloom = omega arith in
    let t : p.tree + 0 ≡ p.tree = omega arith in
    rw (b, t)

-- ---- counts

-- older rows with the newer ones counted are the same as all of them
pub count_join : (total : ℕ) (pages : Pages) (rs : List Read) (older : Option (List (List ℕ))) (newer : List (List ℕ))
    → count_of (total + length newer) (with_read pages rs) older ≡ count_of total (with_read pages rs) (join_rows older (some newer))
count_join total pages rs none newer = refl
count_join total pages rs (some older) newer =
    let l = length-append older newer in
    let n : total + length newer + length older ≡ total + length (older ++ newer) = omega arith in
    rw n

count_damage : (total : ℕ) (pages : Pages) (older : Option (List (List ℕ))) → None ≡ count_of total pages (join_rows older none)
count_damage total pages none = refl
count_damage total pages (some older) = refl

-- nothing more
count_same : (n : Counted) → Some n ≡ count_of n.total (with_read n.pages []) (some [])
count_same n =
    let t : n.total + 0 ≡ n.total = omega arith in
    rw (read_none n.pages, t)

-- ---- the count on its way: as many steps are left as the serial says

module _ (nand : List ℕ) (slots : ℕ) (live : Live) (q : Query) (all : Std.Option Counted) (top : ℕ) where
  pub record CountGoes (c : Cursor) (n : Counted) : Type 0 where
    pub sound : Sound slots c
    pub leads : count_after nand slots live q n c ≡ all
    pub room : n.total + 320 * c.before ≤ 320 + 320 * top
    pub bloom_room : n.pages.bloom + 255 * c.before ≤ 255 * top
    pub tree_room : n.pages.tree + 64 * c.before ≤ 64 * top

  module _ (size : length nand ≡ slots * 16384) (c : Cursor) (n : Counted) (i : CountGoes c n) where
    left : (rs : List Read) (o : Option (List (List ℕ))) → read_after nand slots live q c ≡ rs → rows_after nand slots live q c ≡ o
        → count_of n.total (with_read n.pages rs) o ≡ all
    left rs o e f = rw (e, f) at i.leads

    pub goes_end : advance_of nand slots live q c ≡ End → Some n ≡ all
    goes_end e =
        count_same n
        ∙ left [] (some []) (read_end nand slots live q size c i.sound e) (rows_end nand slots live q size c i.sound e)

    pub goes_damage : advance_of nand slots live q c ≡ Damage → None ≡ all
    goes_damage e = left _ none refl (rows_damage nand slots live q size c i.sound e)

    -- the Bloom pages that were seen in it
    module _ (bloom : ℕ) (bloom_is : bloom ≡ bloom_on nand slots live q c) (few : bloom ≤ 255) (d : Cursor) where
      pub goes_pass : advance_of nand slots live q c ≡ Pass d → (pages : Pages)
          → pages ≡ with_pages n.pages (record { bloom = bloom; tree = 0 }) → CountGoes d (record { total = n.total; pages = pages })
      goes_pass e pages is =
          let f = pass_facts nand slots live q size c i.sound d e in
          let b : bloom ≡ bloom_at nand slots live q c = rw (e, bloom_on) at bloom_is in
          record {
            sound = f.sound;
            leads =
                rw is (ap (λ (p : Pages). count_of n.total p (rows_after nand slots live q d))
                (read_more n.pages (record { bloom = bloom; tree = 0 }) (read_after nand slots live q d))
                ∙ left _ (rows_after nand slots live q d)
                (rw b (read_pass nand slots live q size c i.sound d e)) (rows_pass nand slots live q size c i.sound d e));
            room = omega (arith, f.falls, i.room);
            bloom_room = rw is (omega (arith, f.falls, i.bloom_room));
            tree_room = rw is (omega (arith, f.falls, i.tree_room));
          }

      module _ (s : Closed) (e : advance_of nand slots live q c ≡ Visit s d) where
        abbrev here : Pages
        here = with_pages n.pages (record { bloom = bloom; tree = tree_read nand s q })

        visit_left : count_of n.total (with_read here (read_after nand slots live q d))
            (join_rows (rows_after nand slots live q d) (closed_rows nand s q)) ≡ all
        visit_left =
            let b : bloom ≡ bloom_at nand slots live q c = rw (e, bloom_on) at bloom_is in
            ap (λ (p : Pages). count_of n.total p (join_rows (rows_after nand slots live q d) (closed_rows nand s q)))
            (read_more n.pages (record { bloom = bloom; tree = tree_read nand s q }) (read_after nand slots live q d))
            ∙ left _ (join_rows (rows_after nand slots live q d) (closed_rows nand s q))
            (rw b (read_visit nand slots live q size c i.sound d s e)) (rows_visit nand slots live q size c i.sound d s e)

        pub goes_broken : None ≡ count_of n.total here (closed_rows nand s q) → None ≡ all
        goes_broken is = broken (closed_rows nand s q) is visit_left
          where
            broken : (o : Option (List (List ℕ))) → None ≡ count_of n.total here o
                → count_of n.total (with_read here (read_after nand slots live q d)) (join_rows (rows_after nand slots live q d) o) ≡ all
                → None ≡ all
            broken none h l = count_damage n.total (with_read here (read_after nand slots live q d)) (rows_after nand slots live q d) ∙ l
            broken (some rows) h l = absurd (cc)

        pub goes_visit : (more : Counted) → Some more ≡ count_of n.total here (closed_rows nand s q) → CountGoes d more
        goes_visit more is =
            let f = visit_facts nand slots live q size c i.sound d s e in
            on (closed_rows nand s q) is visit_left few (closed_few nand s q) f.1.falls f.1.sound (read_most nand s f.0 q)
          where
            on : (o : Option (List (List ℕ))) → Some more ≡ count_of n.total here o
                → count_of n.total (with_read here (read_after nand slots live q d)) (join_rows (rows_after nand slots live q d) o) ≡ all
                → bloom ≤ 255 → FewIn o → d.before < c.before → Sound slots d → tree_read nand s q ≤ 9 → CountGoes d more
            on none h l b few falls sound trees = absurd (cc)
            on (some rows) h l b few falls sound trees =
                let m : more ≡ record { total = n.total + length rows; pages = here } = cc in
                record {
                  sound = sound;
                  leads = rw m (count_join n.total here (read_after nand slots live q d) (rows_after nand slots live q d) rows ∙ l);
                  room = rw m (omega (arith, i.room));
                  bloom_room = rw m (omega (arith, b, i.bloom_room));
                  tree_room = rw m (omega (arith, i.tree_room));
                }

-- ---- one segment's matches

module _ (total : ℕ) (pages : Pages) (m : Sweep) where
  pub counted_good : m.good ≡ true → (n : ℕ) → n ≡ length (members m.set.words)
      → Some (record { total = total + n; pages = pages }) ≡ counted_with total pages m
  counted_good e n is = rw (e, is)

  pub counted_bad : m.good ≡ false → None ≡ counted_with total pages m
  counted_bad e = rw e

-- with its tree pages, which are known where it has no damage
pub counted_read : (total : ℕ) (p : Pages) (bloom : ℕ) (m : Sweep) (tree read : ℕ) → (m.good ≡ true → tree ≡ read)
    → counted_with total (with_pages p (record { bloom = bloom; tree = tree })) m
    ≡ counted_with total (with_pages p (record { bloom = bloom; tree = read })) m
counted_read total p bloom m tree read h = go m.good refl
  where
    go : (b : Bool) → m.good ≡ b → counted_with total (with_pages p (record { bloom = bloom; tree = tree })) m
        ≡ counted_with total (with_pages p (record { bloom = bloom; tree = read })) m
    go true e = let t = h e in rw t
    go false e = rw e
