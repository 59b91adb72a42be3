use Rattle.std.proofs.Common.{rules, ◌≡◌, ◌≢◌, ◌∙◌, ℕ, Option, IsSome, Err, sym, ap, subst}
use Rattle.byte_list.specs.Fields.{be32_at, be64_at}
use Rattle.page_text.specs.Opening.{opening}
use Rattle.page_text.specs.Text.{key_lent}
use Rattle.page_text.specs.declared.key.PageKey.{PageKey}
use Rattle.recovery.specs.Loading.{HasFault, page_key_in}
use Rattle.recovery.proofs.HomeTexts.{home_text, home_typed, keyed}
use Rattle.recovery.proofs.loading.open_home.Goals.{else-version-ne0-via-then-version-ne0+else-is_none, else-version-ne0-via-else-version-ne0}
use Rattle.recovery.proofs.loading.open_home.Goals as goal

pub returns-in-Ok-clause-opened : goal.returns-in-Ok-clause-opened
returns-in-Ok-clause-opened c =
    let key = c.key_of-key.ensures.value ∙ ap (λ (v : ℕ). page_key_in c.args.ring.now c.args.algorithm c.args.info.now v) c.be32_at-version.ensures in
    home_text c.args.ring.now c.args.algorithm c.args.info.now c.args.page (key_lent c.as_ref.result) c.args.home.now c.take_apart.new.home c.take_apart.ensures.long (c.as_ref.ensures.value ∙ key) (c.take_apart.ensures.accepted c.in-Ok.is)

pub returns-in-Ok-clause-typed : goal.returns-in-Ok-clause-typed
returns-in-Ok-clause-typed c =
    home_typed c.args.info.now.space c.args.page (be64_at c.args.home.now 16) (be32_at c.args.home.now 0) (key_lent c.as_ref.result) c.args.home.now c.take_apart.new.home (c.take_apart.ensures.accepted c.in-Ok.is)

pub returns-in-Err-clause-refused : goal.returns-in-Err-clause-refused
returns-in-Err-clause-refused c =
    let s = c.args.info.now.space in
    let p = c.args.page in
    let home = c.args.home.now in
    let version = be32_at home 0 in
    let key : c.key_of-key.result ≡ page_key_in c.args.ring.now c.args.algorithm c.args.info.now (be32_at c.args.home.now 0) = c.key_of-key.ensures.value ∙ ap (λ (v : ℕ). page_key_in c.args.ring.now c.args.algorithm c.args.info.now v) c.be32_at-version.ensures in
    let lent = c.as_ref.ensures.value ∙ key in
    let some : be32_at c.args.home.now 0 ≢ 0 → IsSome (page_key_in c.args.ring.now c.args.algorithm c.args.info.now (be32_at c.args.home.now 0)) = elim c.else-version-ne0.branch [
      | else-version-ne0-via-then-version-ne0+else-is_none w ↦ (λ ne. let there : IsSome c.key_of-key.result = search rules in subst IsSome key there)
      | else-version-ne0-via-else-version-ne0 w ↦ (λ ne. absurd (ne (sym c.be32_at-version.ensures ∙ w.if-version-ne0.false)))
    ] in
    record {
      fault = HasFault c.in-Err.fault some (subst (λ (k : Option PageKey). opening s p k home ≡ Err c.in-Err.fault) lent (sym c.in-Err.ensures.value)) c.fault_refusal.ensures.value;
      none = λ plain is.
          let taken = c.take_apart.ensures.taken (be64_at home 16) _ (keyed s p (be64_at home 16) version _ (key_lent c.as_ref.result) _ home lent is) in
          let bad = c.in-Err.is in
          absurd cc;
    }
