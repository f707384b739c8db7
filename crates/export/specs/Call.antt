-- The export (document 02, W-211): "Export a search", for any chips and any state. Assumes nothing.
use Rattle.std.specs.Prelude.{cond, List, ℕ, eqb, ℤ}
use Rattle.found.specs.Found.{found_rows}
use Rattle.store.specs.World.{World, liveness_of}
use Rattle.questions.specs.Queries.{log_of, query_of, search_ground}
use Rattle.export.specs.Answers.{ExportAnswer, refused_export, export_answer}

-- the grounds of a search, 12 aside; then 10, 12 and the text of its rows
unfoldable pub export_outcome : World → ℕ → ℕ → ℕ → ℤ → ℤ → List ℕ → ExportAnswer
export_outcome w slots t1 t2 k1 k2 area =
    let n = search_ground w slots t1 t2 k1 k2 in
    cond (eqb n 0)
    (export_answer area (found_rows w.nand w.nor w.state.page (log_of w.state slots) (liveness_of w) (query_of t1 t2 k1 k2)))
    (refused_export n area)
