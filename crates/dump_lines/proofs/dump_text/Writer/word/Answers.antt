-- The word is copied, and its mark stored behind it.
use Rattle.std.proofs.Common.{arith, refl, ◌∙◌, [], ◌∷◌, ◌++◌}
use Rattle.octets.proofs.Put.{put_fitting}
use Rattle.dump_lines.proofs.Words.{on, marked}
use Rattle.dump_lines.proofs.dump_text.Writer.word.Goals as goal

pub returns : goal.returns
returns c =
    let a = c.args in
    let w = a.self.now in
    let word = a.word.now in
    on w (word ++ (a.mark ∷ [])) (marked w.out.now w.at word a.mark _ (c.copy_into.ensures ∙ put_fitting w.out.now w.at word (omega arith)) refl (omega arith))
