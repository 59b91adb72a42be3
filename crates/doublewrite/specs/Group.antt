-- A batch as a group: the page and the text of each, as store_image's Groups have them.
use Rattle.std.specs.Prelude.{ℕ, List, [], ◌∷◌}
use Rattle.store_image.specs.View.{Text}
use Rattle.page_places.specs.Texts.{text_in}
use Rattle.doublewrite.specs.Text.{page_number_of}
use Rattle.doublewrite.specs.declared.texts.Texts.{Texts}

abbrev pub pages_in : List (List ℕ) → List (ℕ × Text)
pages_in [] = []
pages_in (x ∷ xs) = (page_number_of x, text_in x) ∷ pages_in xs

abbrev pub group_of : Texts → List (ℕ × Text)
group_of batch = pages_in batch.pages
