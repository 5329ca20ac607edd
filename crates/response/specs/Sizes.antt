-- Document 01, 'Commands': what the fields of requests and responses measure, in bytes and, of text, in characters.
use Rattle.std.specs.Prelude.{ℕ, ◌+◌, ◌*◌}
use Rattle.packed_string.specs.Modes.{packed_size}

-- a tag's characters, and its bytes
abbrev pub tag_length : ℕ
tag_length = 8

abbrev pub tag_size : ℕ
tag_size = packed_size tag_length

-- a descriptor's characters, and its bytes
abbrev pub descriptor_length : ℕ
descriptor_length = 16

abbrev pub descriptor_size : ℕ
descriptor_size = packed_size descriptor_length

abbrev pub identity_size : ℕ
identity_size = 12

-- the bytes of a device variable's group
abbrev pub group_size : ℕ
group_size = 8

-- a request asks for so many variables at most, and a response has no more
abbrev pub most_variables : ℕ
most_variables = 8

-- a response begins with two status bytes; command 9 has a byte of extended status behind them
abbrev pub status_size : ℕ
status_size = 2

abbrev pub extended_size : ℕ
extended_size = 1

-- so eight groups end at this place
abbrev pub groups_end : ℕ
groups_end = status_size + extended_size + most_variables * group_size

-- the longest field is a descriptor; a response has at most the status pair, the extended status and eight groups
abbrev pub field_room : ℕ
field_room = descriptor_length

abbrev pub most_fields : ℕ
most_fields = 2 + most_variables
