-- Mini-transactions of a run that name a page.
use Rattle.std.proofs.Common.{◌≡◌, ℕ, ◌+◌, true, List, [], ◌∷◌, ◌++◌, length, take, drop, sym, ap, subst, ◌∙◌, arith, length-append}
use Rattle.std.proofs.lemmas.List.{take-append-drop}
use Rattle.redo_text.specs.declared.change.Change.{Change}
use Rattle.store_image.specs.View.{Logged}
use Rattle.store_files.specs.Pages.{mtr_names}
use Rattle.store_image.specs.Recovers.{IsNamedBy}

abbrev Run : Type 0
Run = List (Logged (List Change))

-- if any entry is such, one from this place on is
pub record NamedBehind (run : Run) (s p lsn i : ℕ) : Type 0 where
  pub behind : IsNamedBy mtr_names run s p lsn → IsNamedBy mtr_names (drop i run) s p lsn

pub named_first : (run : Run) (s p lsn : ℕ) → NamedBehind run s p lsn 0
named_first run s p lsn = record { behind = λ n. n }

head_of : (e d : Logged (List Change)) (es ds : Run) → e ∷ es ≡ d ∷ ds → (e ≡ d) × (es ≡ ds)
head_of e d es ds same = (cc, cc)

skip : (e : Logged (List Change)) (es : Run) (s p lsn : ℕ) → (e.lsn ≡ lsn → mtr_names e.mtr s p ≡ true → ⊥) → IsNamedBy mtr_names (e ∷ es) s p lsn → IsNamedBy mtr_names es s p lsn
skip e es s p lsn isnt n = by n.before n.is
  where
    by : (before : Run) → e ∷ es ≡ before ++ n.entry ∷ n.behind → IsNamedBy mtr_names es s p lsn
    by [] is =
        let h = head_of e n.entry es n.behind is in
        absurd (isnt (ap (λ (x : Logged (List Change)). x.lsn) h.0 ∙ n.lsn_is) (ap (λ (x : Logged (List Change)). mtr_names x.mtr s p) h.0 ∙ n.named))
    by (b ∷ bs) is = let h = head_of e b es (bs ++ n.entry ∷ n.behind) is in record { before = bs; entry = n.entry; behind = n.behind; is = h.1; lsn_is = n.lsn_is; named = n.named }

pub named_next : (run : Run) (s p lsn i : ℕ) (e : Logged (List Change)) → NamedBehind run s p lsn i → drop i run ≡ e ∷ drop (i + 1) run → (e.lsn ≡ lsn → mtr_names e.mtr s p ≡ true → ⊥) → NamedBehind run s p lsn (i + 1)
named_next run s p lsn i e before left isnt = record { behind = λ n. skip e (drop (i + 1) run) s p lsn isnt (subst (λ (xs : Run). IsNamedBy mtr_names xs s p lsn) left (before.behind n)) }

pub named_here : (run : Run) (s p lsn i : ℕ) (e : Logged (List Change)) → drop i run ≡ e ∷ drop (i + 1) run → e.lsn ≡ lsn → mtr_names e.mtr s p ≡ true → IsNamedBy mtr_names run s p lsn
named_here run s p lsn i e left at named =
    record { before = take i run; entry = e; behind = drop (i + 1) run; is = sym (take-append-drop i run) ∙ ap (λ (xs : Run). take i run ++ xs) left; lsn_is = at; named = named }

pub none_named : (run : Run) (s p lsn i : ℕ) → NamedBehind run s p lsn i → drop i run ≡ [] → IsNamedBy mtr_names run s p lsn → ⊥
none_named run s p lsn i before none named =
    let n = before.behind named in
    let long = ap length (sym none ∙ n.is) in omega (arith, long, length-append n.before (n.entry ∷ n.behind))
