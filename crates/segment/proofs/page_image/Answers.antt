-- `page_image`: by the kind of the page.
use mathlib.Core.Path.{sym, ◌∙◌}
use Rattle.tree.proofs.Starts.{bucket_start_lem}
use Rattle.segment.proofs.Turns.{image_lifts, image_page, image_bloom, image_header, tree_due}
use native.Mathlib.Omega.{arith}
use Rattle.segment.proofs.page_image.Goals as goal

pub returns-then-p-lt-TREE_FIRST : goal.returns-then-p-lt-TREE_FIRST
returns-then-p-lt-TREE_FIRST c = sym (image_lifts _ _ _ c.if-p-lt-TREE_FIRST.true)

pub tree_page-requires : goal.tree_page-requires
tree_page-requires c =
    let b = bucket_start_lem c.args.c.buckets in
    let due = tree_due _ _ _ c.if-p-lt-TREE_FIRST.false c.if-p-lt-BLOOM_FIRST.true c.requires.5 in
    (c.if-p-lt-TREE_FIRST.false, c.if-p-lt-BLOOM_FIRST.true, omega (arith, b, due), omega (arith, b, c.requires.0, c.requires.4))

pub returns-then-p-lt-BLOOM_FIRST : goal.returns-then-p-lt-BLOOM_FIRST
returns-then-p-lt-BLOOM_FIRST c = c.tree_page.ensures ∙ sym (image_page _ _ _ c.if-p-lt-TREE_FIRST.false c.if-p-lt-BLOOM_FIRST.true)

pub returns-then-p-lt-HEADER_LAST : goal.returns-then-p-lt-HEADER_LAST
returns-then-p-lt-HEADER_LAST c =
    c.bloom_page.ensures ∙ sym (image_bloom _ _ _ c.if-p-lt-BLOOM_FIRST.false c.if-p-lt-HEADER_LAST.true)

pub returns-else-p-lt-HEADER_LAST : goal.returns-else-p-lt-HEADER_LAST
returns-else-p-lt-HEADER_LAST c = c.header_page.ensures ∙ sym (image_header _ _ _ c.if-p-lt-HEADER_LAST.false)
