-- A turn stores the two digits of a byte behind those of the bytes before it; the mark is stored behind the last.
use Rattle.std.proofs.Common.{ℕ, ◌+◌, ◌*◌, ◌/◌, ◌%◌, ◌≤◌, ◌≡◌, ◌∙◌, List, [], ◌∷◌, ◌++◌, length, take, get_or, ap, arith, add-one}
use lib.ListN.{set, length-set}
use lib.Seq.{take-suc, take_all, length-take-le}
use Rattle.octets.specs.Put.{put}
use Rattle.octets.proofs.Put.{put_two}
use Rattle.octets.specs.Figures.{hex_digit, hex}
use Rattle.octets.proofs.Decimals.{length-hex, hex-append}
use Rattle.dump_lines.specs.Code.{WritesOn}
use Rattle.dump_lines.specs.declared.dump_text.Writer.{Writer}
use Rattle.dump_lines.proofs.Words.{on_more, writes, same_room, marked}
use Rattle.dump_lines.proofs.dump_text.Writer.hex.Goals as goal

-- where the writer stands behind the digits of some bytes
stands_at : (v : Writer) (s : List ℕ) (i : ℕ) {w : Writer} → i ≤ length s → WritesOn v (hex (take i s)) w → w.at ≡ v.at + 2 * i
stands_at v s i h t = omega (arith, (writes t).place, length-hex (take i s), length-take-le i s h)

pub bounds-self-self : goal.bounds-self-self
bounds-self-self c =
    let l = c.loop-byte in
    omega (arith, stands_at c.args.self.now c.args.bytes.now l.byte-index l.invariant.within l.invariant.writes, same_room l.invariant.writes)

pub bounds-self-self-in-loop-byte : goal.bounds-self-self-in-loop-byte
bounds-self-self-in-loop-byte c =
    let l = c.loop-byte in
    simp length-set (omega (arith, stands_at c.args.self.now c.args.bytes.now l.byte-index l.invariant.within l.invariant.writes, same_room l.invariant.writes))

pub loop-byte-preserved : goal.loop-byte-preserved
loop-byte-preserved c =
    let l = c.loop-byte in
    let v = c.args.self.now in
    let s = c.args.bytes.now in
    let i = l.byte-index in
    let b : ℕ = get_or s i 0 in
    let done : List ℕ = hex (take i s) in
    let first : ℕ = get_or c.hex-digits.result 0 0 in
    let second : ℕ = get_or c.hex-digits.result 1 0 in
    let at : l.self.at ≡ v.at + 2 * i = stands_at v s i l.invariant.within l.invariant.writes in
    let size : length done ≡ 2 * i = omega (arith, length-hex (take i s), length-take-le i s (omega arith)) in
    let all : length (hex (take (i + 1) s)) ≡ 2 * i + 2 = omega (arith, length-hex (take (i + 1) s), length-take-le (i + 1) s (omega arith)) in
    let more : hex (take (i + 1) s) ≡ done ++ (hex_digit (b / 16) ∷ hex_digit (b % 16) ∷ []) = rw (add-one, take-suc s i 0 (omega arith), hex-append) in
    let digits : done ++ (first ∷ second ∷ []) ≡ hex (take (i + 1) s) = rw (more, c.hex-digits.ensures) in
    record {
      within = omega arith;
      writes =
          on_more (hex (take (i + 1) s)) l.invariant.writes (record {
            room = omega (arith, all);
            place = omega (arith, all);
            content =
                ap (λ (x : List ℕ). set (set x l.self.at first) (l.self.at + 1) second) (writes l.invariant.writes).content
                ∙ put_two v.out.now v.at done l.self.at first second (omega arith) (omega arith)
                ∙ ap (put v.out.now v.at) digits;
          });
    }

pub bounds-self-self-2 : goal.bounds-self-self-2
bounds-self-self-2 c =
    let l = c.loop-byte in
    omega (arith, stands_at c.args.self.now c.args.bytes.now l.byte-index l.invariant.within l.invariant.writes, same_room l.invariant.writes)

pub returns : goal.returns
returns c =
    let l = c.loop-byte in
    let v = c.args.self.now in
    let s = c.args.bytes.now in
    let whole : take l.byte-index s ≡ s = take_all l.byte-index s (omega arith) in
    let at : l.self.at ≡ v.at + 2 * l.byte-index = stands_at v s l.byte-index l.invariant.within l.invariant.writes in
    on_more (hex s ++ (c.args.mark ∷ [])) l.invariant.writes (marked v.out.now v.at (hex s) c.args.mark l.self.at ((writes l.invariant.writes).content ∙ ap (λ (bs : List ℕ). put v.out.now v.at (hex bs)) whole) (omega (arith, length-hex s)) (omega (arith, length-hex s)))
