use Rattle.std.proofs.Common.{[], ◌∷◌, refl}
use Rattle.blk_virt.proofs.Answering.{moved_desk, moved_held, stays, goes, answers}
use Rattle.blk_virt.proofs.desk.serve_law.Goals as goal

pub returns-clause-kept : goal.returns-clause-kept
returns-clause-kept c = λ old new k part came sent back gave h m. moved_desk old new h k part came sent back gave m

pub returns-clause-held : goal.returns-clause-held
returns-clause-held c = λ old new k part came sent back gave h m. moved_held old new h k part came sent back gave m

pub returns-clause-stays : goal.returns-clause-stays
returns-clause-stays c = λ old new k part came gave h m idle line parts is cs gs ls bs s. stays old new h k part came [] [] gave m parts is cs gs ls bs s idle refl refl line

pub returns-clause-goes : goal.returns-clause-goes
returns-clause-goes c = λ old new k part x h m idle line of parts is cs gs ls bs s. goes old new h k part [] (x ∷ []) [] [] m parts is cs gs ls bs s x refl refl idle line of

pub returns-clause-answers : goal.returns-clause-answers
returns-clause-answers c = λ old new k part y h m line parts is cs gs ls bs s. answers old new h k part [] [] (y ∷ []) [] m parts is cs gs ls bs s y refl refl line
