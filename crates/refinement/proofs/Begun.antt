-- An accepted format leaves the world of the history that has just begun, whatever the chips held. Assumes nothing.
use mathlib.Core.Path.{◌≡◌, refl, sym, ◌∙◌}
use mathlib.Core.Bool.{Bool, true, false, cond}
use mathlib.Core.List.{List, []}
use Prim.Native.Nat.{ℕ, ◌*◌, ◌≤◌}
use native.Mathlib.Omega.{arith}
use lib.Dec.{eqb}
use lib.ListN.{length}
use borrow.Author.Tests.{eq-eqb, le-ltb}
use Rattle.form.specs.declared.Form.{Form}
use Rattle.form.specs.declared.Form.TheVariants.{Old, New}
use Rattle.codec.proofs.Areas.{length_repeated}
use Rattle.bounds.specs.Grounds.{format_ground}
use Rattle.flash.specs.Chip.{slot_of, chip_erased, erased_page}
use Rattle.flash.proofs.Pages.{chips_equal, page_chip_erased}
use Rattle.bloom.specs.Bloom.{section_of, noted_all}
use Rattle.search.specs.Answers.{row_bytes}
use Rattle.store.specs.World.{live_time}
use Rattle.store.specs.Calls.{formatted, format_outcome}
use Rattle.paper_log.specs.Log.{begun}
use Rattle.refinement.specs.Inner.Segments as S
use Rattle.refinement.specs.Inner.Image.{History, live_of, page_from, nand_image, state_image, image}
use Rattle.refinement.proofs.Good as G
use Rattle.refinement.proofs.Good.{Good}
use Rattle.refinement.proofs.Dead.{none_dead}
use Rattle.refinement.proofs.PageLengths.{length_nand, page_of_nand}
use Rattle.refinement.proofs.PageFrom.{open_none}
use Rattle.refinement.proofs.Close.{no_buckets, nor_none, built_none}

abbrev pub begun_history : Form → ℕ → History
begun_history v slots = record { log = begun v slots; gone = [] }

module _ (v : Form) (slots : ℕ) (least : 2 ≤ slots) (most : slots ≤ 4096) where
  pub good_begun : Good (begun_history v slots)
  unfolding begun S.heads_from
  good_begun = record {
    least = least;
    most = most;
    serial = refl;
    room = omega arith;
    busy = λ q. absurd (omega arith);
    last = omega arith;
    still = λ q. absurd (omega arith);
    before = 0;
    begun = 0;
    fresh = λ q. refl;
    later = λ q. absurd (omega arith);
    limited = tt;
    dead = λ k. none_dead k (live_of (begun v slots));
    closed = G.none;
    current = G.none;
    end = omega arith;
    segments = tt;
    segment = built_none;
  }

  nand_is : chip_erased (slots * 16384) ≡ nand_image (begun_history v slots)
  unfolding begun page_from
  nand_is =
      chips_equal (chip_erased (slots * 16384)) (nand_image (begun_history v slots)) slots (length_repeated (slots * 16384) 255)
      (length_nand (begun_history v slots) good_begun) (λ s p a b.
      page_chip_erased slots s p a b ∙ sym (none_there p (eqb (slot_of 1 slots) s)) ∙ sym (page_of_nand (begun_history v slots) good_begun s p a b))
    where
      none_there : (p : ℕ) (t : Bool) → cond t (S.open_page [] p) erased_page ≡ erased_page
      none_there p true = open_none p
      none_there p false = refl

  state_is : formatted ≡ state_image (begun_history v slots)
  unfolding formatted state_image begun S.heads_from S.last_thirteen S.page_buffer S.records_of S.bloom_buffer section_of noted_all row_bytes
  state_is = rw no_buckets

  live_none : (v : Form) → live_time v 0 ≡ 0
  live_none Old = refl
  live_none New = refl

  pub format_world : (nand nor : List ℕ) → length nand ≡ slots * 16384 → length nor ≡ 6144
      → format_outcome v nand nor slots ≡ record { number = 0; world = image (begun_history v slots) }
  unfolding format_outcome format_ground image begun
  format_world nand nor a b =
      rw (a, b, le-ltb slots 2 least, le-ltb 4096 slots most, eq-eqb (slots * 16384) (slots * 16384) refl) (rw (nand_is, state_is, nor_none, live_none v))
