-- `write_frame` meets its contract.
use Prim.Native.Nat.{ℕ, ◌+◌, ◌-◌, ◌≤◌}
use native.Mathlib.Omega.{arith}
use mathlib.Core.Path.{◌≡◌, refl, sym, ap, ap₂, ◌∙◌}
use mathlib.Core.List.{List, [], ◌∷◌, ◌++◌, append_assoc}
use lib.ListN.{length, set, take, drop, length-append, length-drop}
use lib.Seq.{length-take-le}
use lib.Seq.{take_all}
use borrow.Rule.Slice.PartMut.{mid_of}
use Rattle.octets.specs.Put.{put}
use Rattle.octets.proofs.Put.{put-nil, put-put, put-head}
use Rattle.types.specs.Address.{address_length, head_room, is_long, address_bytes, read_address}
use Rattle.types.proofs.Addresses.{address_length_le, length-address, address_taken, address_first, long_read}
use Rattle.line.specs.machine.Step.{opening_in}
use Rattle.line.specs.Layout.{address_of}
use Rattle.line.specs.machine.Feed.{wire_in}
use Rattle.host.specs.Block.{header_size}
use Rattle.host.specs.Record.{frame_record}
use Rattle.host.proofs.records.write_frame.Goals as goal

-- first byte, address, command and count, each stored behind the other, and then the data, copied
record_made : (first command count : ℕ) (ab ds l : List ℕ) {w r es : List ℕ} (next : ℕ) → w ≡ put (set l 0 first) 1 ab → next ≡ 1 + length ab → r ≡ put (set (set w next command) (next + 1) count) (next + 2) es → es ≡ ds
    → next + 2 + length ds ≤ length l → r ≡ put l 0 (first ∷ (ab ++ (command ∷ count ∷ ds)))
record_made first command count ab ds l {w} {r} {es} next ew en er ed h =
    let front = first ∷ (ab ++ (command ∷ count ∷ [])) in
    let size : length front ≡ next + 2 = omega (arith, length-append ab (command ∷ count ∷ [])) in
    let stored : set (set w next command) (next + 1) count ≡ put l 0 front = put-head l [] 0 first ab next command count (sym (put-nil l 0)) refl ew en (omega arith) in
    er
    ∙ ap₂ (λ (q ds : List ℕ). put q (next + 2) ds) stored ed
    ∙ put-put l 0 front ds (next + 2) (omega arith) (omega arith)
    ∙ ap (put l 0) (append_assoc (first ∷ ab) (command ∷ count ∷ []) ds)

pub returns : goal.returns
returns c =
    let a = c.args in
    let block = a.block.now in
    let bs = mid_of 6 260 block in
    let held : bs ≡ drop header_size block = take_all 260 (drop header_size block) (omega (arith, length-drop header_size block)) in
    let whole : length bs ≡ 260 = omega (arith, ap length held, length-drop header_size block) in
    let l = a.room.now in
    let behind = drop head_room bs in
    let wire = wire_in a.completed bs in
    let all : head_room + a.completed.length - head_room ≡ a.completed.length = omega arith in
    let counted : length (take a.completed.length behind) ≡ a.completed.length = length-take-le a.completed.length behind (omega (arith, length-drop head_room bs, whole)) in
    let o = opening_in a.completed.head in
    let address : c.from_bytes-address.result ≡ read_address o.is_long (address_of wire) = c.from_bytes-address.ensures ∙ address_taken o.is_long bs ∙ ap (read_address o.is_long) (sym (address_first o bs)) in
    let long : is_long c.from_bytes-address.result ≡ o.is_long = ap is_long address ∙ long_read o.is_long (address_of wire) in
    let first = c.frame_first.result in
    let ab = address_bytes c.from_bytes-address.result in
    let ds = take a.completed.length behind in
    let next = 1 + c.address_length.result in
    let written : next ≡ 1 + length ab = omega (arith, c.address_length.ensures, length-address c.from_bytes-address.result, ap address_length long) in
    let fits : next + 2 + length ds ≤ length l = omega (arith, counted, c.address_length.ensures, address_length_le a.completed.head.is_long) in
    let laid = record_made first a.completed.command a.completed.length ab ds l next c.write_address.ensures written c.write_data.ensures (ap (λ (k : ℕ). take k behind) all) fits in
    let same : first ∷ (ab ++ (a.completed.command ∷ a.completed.length ∷ ds)) ≡ frame_record wire = rw (c.frame_first.ensures, c.opening.ensures, address, counted) in
    let made : (next + 2 + a.completed.length ≡ length (frame_record wire)) × (c.write_data.new.room ≡ put l 0 (frame_record wire)) =
    (omega (arith, ap length same, length-append ab (a.completed.command ∷ a.completed.length ∷ ds), counted, written), laid ∙ ap (put l 0) same) in
    rw held at made
