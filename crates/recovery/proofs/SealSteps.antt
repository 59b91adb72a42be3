-- The texts of a range are sealed one after another.
use Rattle.std.proofs.Common.{◌≡◌, ◌≢◌, ℕ, zero, suc, ◌+◌, ◌-◌, ◌<◌, ◌≤◌, ◌^◌, Bool, true, false, nat_eq, if◌then◌else◌, List, [], ◌∷◌, ◌++◌, length, take, drop, slice_index_or, Option, refl, sym, ap, subst, ◌∙◌, inl, inr, length-append, arith}
use Rattle.std.proofs.lemmas.Bool.Decides.{nat_tests}
use Rattle.std.proofs.lemmas.List.{append-nil, drop_all, take_all}
use Rattle.byte_list.specs.Bytes.{range}
use Rattle.byte_list.specs.Fields.{be32_at}
use Rattle.byte_list.proofs.FieldLaws.{be32_at-written}
use Rattle.doublewrite.specs.Group.{pages_in}
use Rattle.doublewrite.specs.Text.{IsPageText, page_number_of}
use Rattle.page_places.specs.Texts.{page_bytes, text_in}
use Rattle.page_pool.specs.Pages.{PoolState}
use Rattle.page_text.specs.Text.{FitsPage, Plain, IsText}
use Rattle.page_text.specs.declared.key.PageKey.{PageKey}
use Rattle.store_files.proofs.TextsHeld.{sealed_sum}
use Rattle.store_image.specs.Groups.{IsAmong}
use Rattle.store_image.specs.View.{Text}
use Rattle.recovery.specs.Loading.{MayHaveType}
use Rattle.recovery.specs.Rounds.{count_in}
use Rattle.recovery.specs.Sealing.{AreAscending, AreTextsIn, IsSealedPage, IsTextIn, version_under}
use Rattle.recovery.specs.Walks.{AllHave}
use Rattle.recovery.proofs.RoundSteps.{count_none, count_with, count_without}

pub text_is_whole : (s p lsn version : ℕ) (key : Option PageKey) (plain : Plain) (bytes : List ℕ) → p < 2 ^ 32 → length bytes ≡ page_bytes → IsText page_bytes s p lsn version key plain bytes → IsPageText bytes
text_is_whole s p lsn version key plain bytes small long t = record {
  long = long;
  sums = sealed_sum page_bytes s p lsn version key plain bytes small t;
  number = subst (λ n. n < 2 ^ 32) (sym (be32_at-written bytes 4 p (ap (λ (l : List ℕ). range 4 4 l) t.written) small)) small;
}

-- a list of bytes that was written as a whole
pub written_whole : (n : ℕ) (new old : List ℕ) → length new ≡ n → length old ≡ n → take n (new ++ drop (length new) old) ≡ new
written_whole n new old long same =
    let none : drop (length new) old ≡ [] = drop_all (length new) old (omega (arith, long, same)) in
    ap (λ (l : List ℕ). take n (new ++ l)) none ∙ ap (take n) (append-nil new) ∙ take_all n new (omega (arith, long))

-- a page of a type that it may have fits the version that it is sealed under
pub typed_fits : (p kind version : ℕ) → MayHaveType p kind → FitsPage p kind (version_under p version)
typed_fits p kind version (inl (zero_is, head, clear)) = inl (zero_is, head, (let same : nat_eq p 0 ≡ true = grind (arith, nat_tests) in ap (λ (b : Bool). if b then 0 else version) same))
typed_fits p kind version (inr other) = inr other

pub all_append : {A : Type 0} (P : A → Type 0) (xs : List A) (x : A) → AllHave P xs → P x → AllHave P (xs ++ x ∷ [])
all_append P [] x all p = (p, tt)
all_append P (y ∷ ys) x all p = (all.0, all_append P ys x all.1 p)

pub all_weaker : {A : Type 0} (P Q : A → Type 0) (xs : List A) → ((x : A) → P x → Q x) → AllHave P xs → AllHave Q xs
all_weaker P Q [] more all = tt
all_weaker P Q (x ∷ xs) more all = (more x all.0, all_weaker P Q xs more all.1)

ascending_append : (xs : List (List ℕ)) (y : List ℕ) → AreAscending xs → AllHave (λ x. page_number_of x < page_number_of y) xs → AreAscending (xs ++ y ∷ [])
ascending_append [] y ascending below = (tt, tt)
ascending_append (x ∷ xs) y ascending below = (all_append (λ z. page_number_of x < page_number_of z) xs y ascending.0 below.0, ascending_append xs y ascending.1 below.1)

among_append : (p : ℕ) (t : Text) (xs : List (List ℕ)) (y : List ℕ) → IsAmong p t (pages_in xs) → IsAmong p t (pages_in (xs ++ y ∷ []))
among_append p t [] y among = absurd among
among_append p t (x ∷ xs) y (inl is) = inl is
among_append p t (x ∷ xs) y (inr among) = inr (among_append p t xs y among)

among_last : (p : ℕ) (xs : List (List ℕ)) (y : List ℕ) → page_number_of y ≡ p → IsAmong p (text_in y) (pages_in (xs ++ y ∷ []))
among_last p [] y is = inl (is, refl)
among_last p (x ∷ xs) y is = inr (among_last p xs y is)

pub number_of_text : (s : ℕ) (last : List ℕ) (version : ℕ) (key : Option PageKey) (pool : PoolState) (p : ℕ) (text : List ℕ) → IsSealedPage s last version key pool p text → page_number_of text ≡ p
number_of_text s last version key pool p text sealed = be32_at-written text 4 p (ap (λ (l : List ℕ). range 4 4 l) sealed.is.written) sealed.small

module _ (has : ℕ → Bool) (s : ℕ) (last : List ℕ) (version : ℕ) (key : Option PageKey) (pool : PoolState) (from : ℕ) where
  pub texts_none : AreTextsIn has s last version key pool from from []
  texts_none = record { each = tt; every = λ p low high later. absurd (omega (arith, low, high)); ascending = tt; count = sym (count_none has from) }

  module _ (page : ℕ) (texts : List (List ℕ)) (low : from ≤ page) (are : AreTextsIn has s last version key pool from page texts) where
    longer : (text : List ℕ) → IsTextIn has s last version key pool from page text → IsTextIn has s last version key pool from (page + 1) text
    longer text is = record { page = is.page; low = is.low; high = (let lt = is.high in omega (arith, lt)); later = is.later; sealed = is.sealed }

    pub texts_same : has page ≡ false → AreTextsIn has s last version key pool from (page + 1) texts
    texts_same isnt = record {
      each = all_weaker (IsTextIn has s last version key pool from page) (IsTextIn has s last version key pool from (page + 1)) texts longer are.each;
      every = λ p above below later. by p above below later (nat_eq p page) refl;
      ascending = are.ascending;
      count = are.count ∙ sym (count_without has from page low isnt);
    }
      where
        by : (p : ℕ) → from ≤ p → p < page + 1 → has p ≡ true → (b : Bool) → nat_eq p page ≡ b → (t : Text) × IsAmong p t (pages_in texts)
        by p above below later true same = let is : p ≡ page = grind (arith, nat_tests) in let here : has page ≡ true = subst (λ (q : ℕ). has q ≡ true) is later in absurd cc
        by p above below later false apart = are.every p above (grind (arith, nat_tests)) later

    pub texts_more : (text : List ℕ) → has page ≡ true → IsSealedPage s last version key pool page text → AreTextsIn has s last version key pool from (page + 1) (texts ++ text ∷ [])
    texts_more text is sealed = record {
      each = all_append (IsTextIn has s last version key pool from (page + 1)) texts text (all_weaker (IsTextIn has s last version key pool from page) (IsTextIn has s last version key pool from (page + 1)) texts longer are.each)
          (record { page = page; low = low; high = omega arith; later = is; sealed = sealed });
      every = λ p above below later. by p above below later (nat_eq p page) refl;
      ascending = ascending_append texts text are.ascending (all_weaker (IsTextIn has s last version key pool from page) (λ x. page_number_of x < page_number_of text) texts less are.each);
      count = length-append texts (text ∷ []) ∙ ap (λ (n : ℕ). n + 1) are.count ∙ sym (count_with has from page low is);
    }
      where
        number : page_number_of text ≡ page
        number = number_of_text s last version key pool page text sealed

        less : (x : List ℕ) → IsTextIn has s last version key pool from page x → page_number_of x < page_number_of text
        less x at = let one = number_of_text s last version key pool at.page x at.sealed in let lt = at.high in omega (arith, one, lt, number)

        by : (p : ℕ) → from ≤ p → p < page + 1 → has p ≡ true → (b : Bool) → nat_eq p page ≡ b → (t : Text) × IsAmong p t (pages_in (texts ++ text ∷ []))
        by p above below later true same = let here : p ≡ page = grind (arith, nat_tests) in (text_in text, among_last p texts text (number ∙ sym here))
        by p above below later false apart = let (t, among) = are.every p above (grind (arith, nat_tests)) later in (t, among_append p t texts text among)

-- ---- the texts as a batch

all_index : {A : Type 0} (P : A → Type 0) (d : A) (xs : List A) → AllHave P xs → (i : ℕ) → i < length xs → P (slice_index_or xs i d)
all_index P d [] all i lt = absurd (omega (arith, lt))
all_index P d (x ∷ xs) all zero lt = all.0
all_index P d (x ∷ xs) all (suc i) lt = all_index P d xs all.1 i (omega (arith, lt))

pub numbers_apart : (texts : List (List ℕ)) → AreAscending texts → (i j : ℕ) → i < j → j < length texts → page_number_of (slice_index_or texts i []) ≢ page_number_of (slice_index_or texts j [])
numbers_apart [] ascending i j less lt = absurd (omega (arith, lt))
numbers_apart (x ∷ xs) ascending i zero less lt = absurd (omega (arith, less))
numbers_apart (x ∷ xs) ascending zero (suc j) less lt = λ same. let above = all_index (λ y. page_number_of x < page_number_of y) [] xs ascending.0 j (omega (arith, lt)) in omega (arith, same, above)
numbers_apart (x ∷ xs) ascending (suc i) (suc j) less lt = numbers_apart xs ascending.1 i j (omega (arith, less)) (omega (arith, lt))

module _ (has : ℕ → Bool) (s : ℕ) (last : List ℕ) (version : ℕ) (key : Option PageKey) (pool : PoolState) (from end : ℕ) (texts : List (List ℕ)) (are : AreTextsIn has s last version key pool from end texts) where
  pub numbers_within : (count : ℕ) → end ≤ count → (i : ℕ) → i < length texts → page_number_of (slice_index_or texts i []) < count
  numbers_within count le i lt =
      let is = all_index (IsTextIn has s last version key pool from end) [] texts are.each i lt in
      let number = number_of_text s last version key pool is.page (slice_index_or texts i []) is.sealed in
      let high = is.high in
      omega (arith, number, high, le)

  pub numbers_in : (i : ℕ) → i < length texts → (from ≤ page_number_of (slice_index_or texts i [])) × (page_number_of (slice_index_or texts i []) < end)
  numbers_in i lt =
      let is = all_index (IsTextIn has s last version key pool from end) [] texts are.each i lt in
      let number = number_of_text s last version key pool is.page (slice_index_or texts i []) is.sealed in
      let low = is.low in
      let high = is.high in
      (omega (arith, number, low), omega (arith, number, high))
