-- The key that counts for a version.
use Rattle.std.proofs.Common.{◌≡◌, ℕ, zero, suc, ◌≢◌, refl, ne_eqb}
use Rattle.std.specs.Borrow.{Bor}
use Rattle.std.specs.Prelude.{◌↔◌, IsSome, Option, Some, None}
use Rattle.page_text.specs.Text.{key_lent, page_key}
use Rattle.page_text.specs.declared.key.PageKey.{PageKey}

-- a key that is there exactly where the version isn't 0
pub page_key-own : (version : ℕ) (key : Option PageKey) → (IsSome key ↔ (version ≢ 0)) → page_key version key ≡ key
page_key-own zero None h = refl
page_key-own zero (Some key) h = absurd (h.0 refl refl)
page_key-own (suc v) None h = let e = h.1 (λ e. cc) in cc
page_key-own (suc v) (Some key) h = rw (ne_eqb (suc v) 0 (λ e. cc)) refl

pub key_lent-some : (key : Option (Bor PageKey)) → IsSome key → IsSome (key_lent key)
key_lent-some None h = h
key_lent-some (Some k) h = refl
