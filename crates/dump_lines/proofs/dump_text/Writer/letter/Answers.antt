-- The letter and its mark are stored one behind the other.
use Rattle.std.proofs.Common.{ℕ, ◌+◌, List, [], ◌∷◌, sym, ap, ◌∙◌, refl, arith}
use lib.ListN.{set}
use Rattle.octets.proofs.Put.{put-nil, put_two}
use Rattle.dump_lines.proofs.Words.{on}
use Rattle.dump_lines.proofs.dump_text.Writer.letter.Goals as goal

pub returns : goal.returns
returns c =
    let a = c.args in
    let w = a.self.now in
    let stored = ap (λ (x : List ℕ). set (set x w.at a.letter) (w.at + 1) a.mark) (sym (put-nil w.out.now w.at)) ∙ put_two w.out.now w.at [] w.at a.letter a.mark (omega arith) (omega arith) in
    on w (a.letter ∷ a.mark ∷ []) (record { room = omega arith; place = refl; content = stored })
