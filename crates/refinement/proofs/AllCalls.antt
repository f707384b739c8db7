-- Demand 3: the store answers every list of calls after an accepted format as the paper log does. By induction over the list; each call by its own
-- theorem. Assumes nothing.
use mathlib.Core.Path.{◌≡◌, refl, ap, ap₂, ◌∙◌}
use mathlib.Core.Bool.{Bool, true, false, cond}
use mathlib.Core.List.{List, [], ◌∷◌, map}
use Prim.Native.Nat.{ℕ, ◌/◌}
use lib.Dec.{eqb}
use lib.IntN.{ℤ}
use lib.ListN.{length, length-map}
use Rattle.store.specs.World.{World}
use Rattle.store.specs.Calls.{Outcome}
use Rattle.questions.specs.Queries.{search_outcome}
use Rattle.codec.specs.Area.{splice}
use Rattle.search.specs.Answers.{row_bytes}
use Rattle.paper_log.specs.Log.{Log, found, row_of}
use Rattle.paper_log.specs.Calls as Paper
use Rattle.refinement.specs.Inner.Image.{History, image}
use Rattle.refinement.specs.Run.{Request, append, close, drop, search, call_of, Reply, plain, searched, reply, replies, expected, expected_all, Typed, AllTyped}
use Rattle.refinement.proofs.Good.{Good}
use Rattle.refinement.proofs.Steps as Steps
use Rattle.refinement.proofs.SearchStep.{search_step}
use Rattle.refinement.proofs.Reached.{world_is, good_after}

-- ---- a search

search_replies : (h : History) → Good h → (k t1 t2 : ℕ) (k1 k2 : ℤ) (area : List ℕ)
    → searched (search_outcome (image h) k t1 t2 k1 k2 area)
    ≡ expected (Paper.answered h.log (Paper.search k t1 t2 k1 k2 (length area / 32))) (search k t1 t2 k1 k2 area)
unfolding expected Paper.answered Paper.rows_of
search_replies h g k t1 t2 k1 k2 area = search_step h g k t1 t2 k1 k2 area ∙ go number (eqb number 0)
  where
    number : ℕ
    number = Paper.number_of h.log (Paper.search k t1 t2 k1 k2 (length area / 32))

    rows : List (List ℕ)
    rows = map row_of (found h.log t1 t2 k1 k2)

    go : (n : ℕ) (t : Bool) → ◌≡◌ {A = Reply}
        (record { number = n; count = cond t (length (found h.log t1 t2 k1 k2)) 0; area = cond t (splice area 0 (row_bytes rows)) area })
        (record { number = n; count = length (cond t rows []); area = cond t (splice area 0 (row_bytes (cond t rows []))) area })
    go n true = rw (length-map (found h.log t1 t2 k1 k2) row_of)
    go n false = refl

-- ---- one call

pub reply_is : (h : History) → Good h → (r : Request) → Typed r → reply (image h) r ≡ expected (Paper.answered h.log (call_of r)) r
unfolding reply expected Paper.answered
reply_is h g (append k time load note) ok = ap (λ (o : Outcome). plain o.number) (Steps.append_step h g k (record { time = time; load = load; note = note }) ok.0 ok.1)
reply_is h g (close k) ok = ap (λ (o : Outcome). plain o.number) (Steps.close_step h g k)
reply_is h g (drop k) ok = ap (λ (o : Outcome). plain o.number) (Steps.drop_step h g k)
reply_is h g (search k t1 t2 k1 k2 area) ok = search_replies h g k t1 t2 k1 k2 area

-- ---- a list of calls

pub replies_are : (rs : List Request) (h : History) → Good h → AllTyped rs → replies (image h) rs ≡ expected_all (Paper.answers h.log (map call_of rs)) rs
unfolding replies expected_all Paper.answers
replies_are [] h g ok = refl
replies_are (r ∷ rs) h g ok =
    ap₂ {C = List Reply} (λ a b. a ∷ b) (reply_is h g r ok.0)
    (ap (λ (w : World). replies w rs) (world_is h g r ok.0) ∙ replies_are rs (Steps.after h (call_of r)) (good_after h g r ok.0) ok.1
    ∙ ap (λ (l : Log). expected_all (Paper.answers l (map call_of rs)) rs) (Steps.after_log h (call_of r)))
