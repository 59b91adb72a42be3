-- A text that was sealed is one of the doublewrite file, and texts of pages in a row.
use Rattle.std.proofs.Common.{◌≡◌, ℕ, ◌^◌, ◌<◌, List, [], ◌∷◌, ◌++◌, length, take, drop, Option, sym, ap, ◌∙◌, subst, arith}
use Rattle.std.proofs.lemmas.List.{append-nil, drop_all, take_all}
use Rattle.std.specs.List.{All}
use Rattle.std.proofs.lemmas.List.Elements.{All-cons}
use Rattle.byte_list.specs.Bytes.{range}
use Rattle.byte_list.specs.Fields.{be32_at}
use Rattle.byte_list.proofs.FieldLaws.{be32_at-written}
use Rattle.doublewrite.specs.Text.{IsPageText}
use Rattle.page_places.specs.Texts.{page_bytes}
use Rattle.page_text.specs.Text.{Plain, IsText}
use Rattle.page_text.specs.declared.key.PageKey.{PageKey}
use Rattle.store_files.proofs.TextsHeld.{sealed_sum}
use Rattle.page_batch.specs.Batch.{CopiedPage, TextOfPage, AreTextsOfPages, IsTextOfPage}

pub text_is_whole : (space page lsn version : ℕ) (key : Option PageKey) (plain : Plain) (bytes : List ℕ) → page < 2 ^ 32 → length bytes ≡ page_bytes → IsText page_bytes space page lsn version key plain bytes → IsPageText bytes
text_is_whole space page lsn version key plain bytes small long t = record {
  long = long;
  sums = sealed_sum page_bytes space page lsn version key plain bytes small t;
  number = subst (λ n. n < 2 ^ 32) (sym (be32_at-written bytes 4 page (ap (λ (l : List ℕ). range 4 4 l) t.written) small)) small;
}

-- one page more
pub texts_more : (space version : ℕ) (key : Option PageKey) (cs : List CopiedPage) (ts : List TextOfPage) (c : CopiedPage) (t : TextOfPage)
    → AreTextsOfPages space version key cs ts → t.copied ≡ c → IsTextOfPage space version key t → AreTextsOfPages space version key (cs ++ (c ∷ [])) (ts ++ (t ∷ []))
texts_more space version key [] [] c t are is text = (is, text, tt)
texts_more space version key [] (x ∷ ts) c t are is text = absurd are
texts_more space version key (x ∷ cs) [] c t are is text = absurd are
texts_more space version key (x ∷ cs) (y ∷ ts) c t are is text = (are.0, are.1, texts_more space version key cs ts c t are.2 is text)

-- each is the text of its page
pub texts_all : (space version : ℕ) (key : Option PageKey) (cs : List CopiedPage) (ts : List TextOfPage) → AreTextsOfPages space version key cs ts → All (IsTextOfPage space version key) ts
texts_all space version key cs [] are = λ k d low. absurd (omega (arith, low))
texts_all space version key [] (t ∷ ts) are = absurd are
texts_all space version key (c ∷ cs) (t ∷ ts) are = All-cons (IsTextOfPage space version key) t ts are.1 (texts_all space version key cs ts are.2)

-- a list of bytes that was written as a whole
pub written_whole : (n : ℕ) (new old : List ℕ) → length new ≡ n → length old ≡ n → take n (new ++ drop (length new) old) ≡ new
written_whole n new old long same =
    let none : drop (length new) old ≡ [] = drop_all (length new) old (omega (arith, long, same)) in
    ap (λ (l : List ℕ). take n (new ++ l)) none ∙ ap (take n) (append-nil new) ∙ take_all n new (omega (arith, long))
