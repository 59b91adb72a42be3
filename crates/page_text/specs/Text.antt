-- The text of a page: MariaDB's full_crc32 with a ciphered part, in this project's profile. Numbers have their highest byte first.
use Rattle.std.specs.Prelude.{◌≡◌, ◌≢◌, ℕ, ◌+◌, ◌%◌, ◌^◌, ◌<◌, ◌==◌, ◌⊎◌, List, ◌++◌, length, replicate, if◌then◌else◌, IsSome}
use Rattle.std.specs.Prelude.{Option, Some, None}
use Rattle.std.specs.Borrow.{Bor}
use Rattle.std.specs.Option.{option_map}
use Rattle.std.specs.Int.{to_be_bytes, to_le_bytes, w16, w32, w64}
use Rattle.aes_core.specs.Algorithm.{ciphered}
use Rattle.bytes_core.specs.Crc.{crc32c}
use Rattle.byte_list.specs.Bytes.{AreBytes}
use Rattle.byte_list.specs.Fields.{be16_at}
use Rattle.space_head.specs.Sizes.{IsPageSize}
use Rattle.page_text.specs.Parts.{body, page_frame_size, page_type_at}
use Rattle.page_text.specs.declared.key.PageKey.{PageKey}

-- a plain page: its type and its body
pub record Plain : Type 0 where
  pub kind : ℕ
  pub bytes : List ℕ

-- the plain page in a page that is in clear
abbrev pub plain_of : List ℕ → Plain
plain_of page = record { kind = be16_at page page_type_at; bytes = body page }

-- bytes 0 to 24: key version, page number, prev, next, LSN
abbrev pub start : ℕ → ℕ → ℕ → List ℕ
start page lsn version = to_be_bytes w32 version ++ (to_be_bytes w32 page ++ (replicate 8 255 ++ to_be_bytes w64 lsn))

-- bytes 26 to 38 in clear: flush LSN and space id
abbrev pub inner_start : ℕ → List ℕ
inner_start space = replicate 8 0 ++ to_be_bytes w32 space

-- bytes 26 to the checksum in clear: these, the body and the low half of the LSN
abbrev pub inner : ℕ → ℕ → List ℕ → List ℕ
inner space lsn bytes = inner_start space ++ (bytes ++ to_be_bytes w32 (lsn % 2 ^ 32))

-- the IV of a page, or its first counter: numbers with their lowest byte first
abbrev pub page_iv : ℕ → ℕ → ℕ → List ℕ
page_iv space page lsn = to_le_bytes w32 space ++ (to_le_bytes w32 page ++ to_le_bytes w64 lsn)

-- a page of version 0 is in clear, whatever key is at hand
abbrev pub page_key : ℕ → Option PageKey → Option PageKey
page_key version key = if version == 0 then None else key

-- bytes under a key, or as they are without one
abbrev pub enciphered : Option PageKey → List ℕ → List ℕ → List ℕ
enciphered None iv bytes = bytes
enciphered (Some key) iv bytes = ciphered key.algorithm key.local iv bytes

-- all bytes before the checksum
abbrev pub before_sum : ℕ → ℕ → ℕ → ℕ → Option PageKey → Plain → List ℕ
before_sum space page lsn version key plain =
    start page lsn version ++ (to_be_bytes w16 plain.kind ++ enciphered (page_key version key) (page_iv space page lsn) (inner space lsn plain.bytes))

-- the text: the checksum comes last, over the cipher text
abbrev pub text : ℕ → ℕ → ℕ → ℕ → Option PageKey → Plain → List ℕ
text space page lsn version key plain =
    let front = before_sum space page lsn version key plain in front ++ to_be_bytes w32 (crc32c front)

-- page 0 has type 8 and version 0, and no other page has type 8 or 9
abbrev pub FitsPage : ℕ → ℕ → ℕ → Type 0
FitsPage page kind version = ((page ≡ 0) × (kind ≡ 8) × (version ≡ 0)) ⊎ ((page ≢ 0) × (kind ≢ 8) × (kind ≢ 9))

-- a key that is lent
abbrev pub key_lent : Option (Bor PageKey) → Option PageKey
key_lent key = option_map (λ k. k.now) key

-- bytes are the text of a plain page, in pages of a size
pub record IsText (size space page lsn version : ℕ) (key : Option PageKey) (plain : Plain) (bytes : List ℕ) : Type 0 where
  pub sized : IsPageSize size
  pub fits : FitsPage page plain.kind version
  pub keyed : version ≢ 0 → IsSome key
  pub body_long : length plain.bytes + page_frame_size ≡ size
  pub body_bytes : AreBytes plain.bytes
  pub kind_fits : plain.kind < 2 ^ 16
  pub lsn_fits : lsn < 2 ^ 64
  pub version_fits : version < 2 ^ 32
  pub written : bytes ≡ text space page lsn version key plain
