-- Entries of a lease table.
use Rattle.std.specs.Prelude.{ℕ, ◌+◌, ◌*◌, ◌^◌, List, slice_index}
use Rattle.kernel_abi.specs.declared.LeaseEntry.{LeaseEntry}

-- the word whose four bytes begin at index i, the lowest byte first
abbrev pub word_at : List ℕ → ℕ → ℕ
word_at bytes i =
    slice_index bytes i + slice_index bytes (i + 1) * 2 ^ 8 + slice_index bytes (i + 2) * 2 ^ 16 + slice_index bytes (i + 3) * 2 ^ 24

-- attributes, base and length
abbrev pub lease_entry : List ℕ → LeaseEntry
lease_entry bytes = record { attributes = word_at bytes 0; base = word_at bytes 4; len = word_at bytes 8 }
