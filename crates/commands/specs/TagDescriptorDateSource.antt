-- write_tag_descriptor_date.rs written down: its two functions with the Rust's own names, in its order, to be held beside it. What stops a
-- debug build stops here: an index or a range outside a slice. The Rust's BufferTooSmall and BufferTooShort are document 01's 2 and 3.
use Rattle.std.specs.Prelude.{ℕ, cond, List, [], ◌∷◌, length, replicate, ltb}
use Rattle.refusal.specs.Outcome.{Outcome, ends, done, refuses}
use Rattle.octets.specs.Source.{Run, comes, store_at, lent_to, read_at, slice_at, after_call}
use Rattle.packed_string.specs.Source.{source_encoded, source_decoded}
use Rattle.framing.specs.Payload.{carries}
use Rattle.commands.specs.TagDescriptorDate.{Fields, reads_fields, fields_refused}

-- `encode_data`
abbrev pub source_fields_requested : List ℕ → List ℕ → ℕ → ℕ → ℕ → List ℕ → Run Outcome
source_fields_requested tag descriptor day month year buf =
    cond (ltb (length buf) 21) (comes (refuses 2 [] buf))
    (lent_to buf 0 6 (source_encoded tag) (λ buf₁.
    lent_to buf₁ 6 18 (source_encoded descriptor) (λ buf₂.
    store_at buf₂ 18 day (λ buf₃.
    store_at buf₃ 19 month (λ buf₄.
    store_at buf₄ 20 year (λ buf₅. comes (ends (done (21 ∷ [])) buf₅)))))))

-- `decode_data`; where the Rust gives an error and nothing else, our fields are zeros
abbrev pub source_read : List ℕ → Run Fields
source_read «data» =
    cond (ltb (length «data») 21) (comes (fields_refused 3 []))
    (slice_at «data» 0 6 (λ part. after_call (source_decoded part (replicate 8 0x20)) (λ tag.
    slice_at «data» 6 18 (λ part₁. after_call (source_decoded part₁ (replicate 16 0x20)) (λ descriptor.
    read_at «data» 18 (λ day.
    read_at «data» 19 (λ month.
    read_at «data» 20 (λ year. comes (reads_fields carries tag descriptor day month year)))))))))
