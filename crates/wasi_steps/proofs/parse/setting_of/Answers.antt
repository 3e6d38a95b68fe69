use Rattle.std.proofs.Common.{refl, ◌∙◌}
use Rattle.world_text.specs.Fields.{read_then}
use Rattle.wasi_steps.specs.Settings.{narrow_words, wide_words}
use Rattle.wasi_steps.proofs.SettingLaws.{◌and◌}
use Rattle.wasi_steps.proofs.StepWords.{past_words, none_reads}
use Rattle.wasi_steps.proofs.parse.setting_of.Goals as goal

pub returns-in_err-number-in_default : goal.returns-in_err-number-in_default
unfolding read_then
returns-in_err-number-in_default c =
    let none = c.in_err-number-in_default.ensures.read in
    let reads = past_words narrow_words wide_words c.args.word.now c.args.fields.now (assumption c) ∙ none_reads wide_words c.args.word.now c.args.fields.now (rw none refl and rw none refl and rw none refl and rw none refl and rw none refl and tt) in
    rw c.from_residual-in_err-number-in_default.ensures reads

pub returns-in_ok-number-in_default : goal.returns-in_ok-number-in_default
returns-in_ok-number-in_default c =
    rw (past_words narrow_words wide_words c.args.word.now c.args.fields.now (assumption c)) (c.wide_setting.ensures _ _ c.in_ok-number-in_default.ensures.read)
