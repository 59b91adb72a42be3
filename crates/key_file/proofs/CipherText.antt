-- What `cbc_pad_decrypt` says of the bytes after the salt.
use Rattle.std.proofs.Common.{◌≡◌, ℕ, ◌-◌, List, length, take, drop, sym, ap, ◌∙◌}
use Rattle.std.proofs.lemmas.List.{take_rest}
use Rattle.aes_core.specs.Modes.{cbc_pad}
use Rattle.aes_core.specs.declared.pad.PadFault.{PadFault}
use Rattle.aes_core.specs.declared.pad.PadFault.TheVariants.{Padding, OutOfMemory}

-- the slice from byte 16 on
pub rest_is : (s : List ℕ) → take (length s - 16) (drop 16 s) ≡ drop 16 s
rest_is s = take_rest s 16

-- the text under the derived key and IV
pub text_under : (s key iv key' iv' text : List ℕ) → take (length s - 16) (drop 16 s) ≡ cbc_pad key iv text → key ≡ key' → iv ≡ iv'
    → drop 16 s ≡ cbc_pad key' iv' text
text_under s key iv key' iv' text h e f = sym (rest_is s) ∙ h ∙ ap (λ (k : List ℕ). cbc_pad k iv text) e ∙ ap (λ (v : List ℕ). cbc_pad key' v text) f

-- and back
pub text_back : (s key iv key' iv' text : List ℕ) → drop 16 s ≡ cbc_pad key' iv' text → key ≡ key' → iv ≡ iv'
    → take (length s - 16) (drop 16 s) ≡ cbc_pad key iv text
text_back s key iv key' iv' text h e f = rest_is s ∙ h ∙ ap (λ (k : List ℕ). cbc_pad k iv' text) (sym e) ∙ ap (λ (v : List ℕ). cbc_pad key v text) (sym f)

pub other_fault : (e : PadFault) → e ≡ Padding → e ≡ OutOfMemory → ⊥
other_fault e p m = cc
