-- A store of bytes as store_image speaks of it: its pages, its mini-transactions, and which texts are those of its pages under the keys.
use Rattle.std.specs.Prelude.{ℕ, List}
use Rattle.key_ring.specs.Ring.{RingEntry}
use Rattle.store_image.specs.Recovers.{Theory}
use Rattle.redo_text.specs.declared.change.Change.{Change}
use Rattle.store_files.specs.Header.{HeldHeader}
use Rattle.store_files.specs.Pages.{Page, Unused, has_page, is_used, mtr_names, mtr_acts, MeansPage, floor_of, is_ciphered}
use Rattle.store_files.proofs.PageLaws.{has_head_page, unused_blank, mtr_idle, mtr_uses, means_one, means_used, means_text}

-- the theory of a store with this header, these keys and these salts of its spaces
abbrev pub store_theory : HeldHeader → List RingEntry → (ℕ → List ℕ) → Theory
store_theory header keys salts = record {
  X = Page;
  M = List Change;
  has = has_page header.spaces;
  has_head = has_head_page header.spaces;
  blank = Unused;
  is_used = is_used;
  blank_unused = unused_blank;
  names = mtr_names;
  acts = mtr_acts;
  idle = mtr_idle;
  uses = mtr_uses;
  Means = MeansPage header keys salts;
  means_one = means_one header keys salts;
  means_used = means_used header keys salts;
  means_text = means_text header keys salts;
  floor = floor_of;
  is_ciphered = is_ciphered;
}
