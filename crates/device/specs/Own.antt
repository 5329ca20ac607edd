-- The device: its identity, its text and what it measures.
use Rattle.std.specs.Prelude.{ℕ, cond, List, [], ◌∷◌, eqb}
use Rattle.commands.specs.declared.identity.DeviceIdentity.{DeviceIdentity}
use Rattle.commands.specs.declared.read_device_vars.DeviceVariable.{DeviceVariable}
use Rattle.commands.specs.declared.tag_descriptor_date.TagDescriptorDate.{TagDescriptorDate}
use Rattle.commands.specs.Variables.{variable}

unfoldable pub own_identity : DeviceIdentity
own_identity = record {
  expansion_code = 0xFE;
  expanded_device_type = 0x260A;
  min_preamble_count = 5;
  hart_revision = 5;
  device_revision = 1;
  software_revision = 2;
  hardware_revision = 4;
  physical_signaling = 1;
  flags = 0;
  device_id = 0x010203;
}

-- "TANK-07 "
unfoldable pub own_tag : List ℕ
own_tag = 0x54 ∷ 0x41 ∷ 0x4E ∷ 0x4B ∷ 0x2D ∷ 0x30 ∷ 0x37 ∷ 0x20 ∷ []

-- "CRUDE OIL LEVEL "
unfoldable pub own_descriptor : List ℕ
own_descriptor = 0x43 ∷ 0x52 ∷ 0x55 ∷ 0x44 ∷ 0x45 ∷ 0x20 ∷ 0x4F ∷ 0x49 ∷ 0x4C ∷ 0x20 ∷ 0x4C ∷ 0x45 ∷ 0x56 ∷ 0x45 ∷ 0x4C ∷ 0x20 ∷ []

-- 31 December 2026: years are counted from 1900
abbrev pub own_day : ℕ
own_day = 31

abbrev pub own_month : ℕ
own_month = 12

abbrev pub own_year : ℕ
own_year = 126

abbrev pub own_texts : TagDescriptorDate
own_texts = record { tag = own_tag; descriptor = own_descriptor; day = own_day; month = own_month; year = own_year }

-- the variable of a code: level 7.25 m, volume 1450 m³, temperature 18.5 °C and loop current 12 mA, each good; a code that it has not
-- gets no class, the unit of what is not used, the bits of what is no number, and a bad status
unfoldable pub own_variable : ℕ → DeviceVariable
own_variable code =
    cond (eqb code 0) (variable 0 69 45 0x40E80000 0xC0)
    (cond (eqb code 1) (variable 1 68 43 0x44B54000 0xC0)
    (cond (eqb code 2) (variable 2 64 32 0x41940000 0xC0)
    (cond (eqb code 3) (variable 3 84 39 0x41400000 0xC0)
    (variable code 0 0xFA 0x7FA00000 0x30))))
