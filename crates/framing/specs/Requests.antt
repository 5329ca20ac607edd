-- Document 02, 1/12: a device's typed reading of a request.
use Rattle.std.specs.Prelude.{ℕ, cond, List, [], eqb}
use Rattle.types.specs.declared.delimiter.FrameType.{FrameType}
use Rattle.types.specs.declared.delimiter.FrameType.TheVariants.{Request, Response, Burst}
use Rattle.line.specs.declared.frame.Frame.{Frame}
use Rattle.framing.specs.Payload.{Judgement, carries, withheld, Reader, data_of}

-- a device takes requests alone
abbrev pub request_judgement : FrameType → Judgement
request_judgement Request = carries
request_judgement Response = withheld 6 []
request_judgement Burst = withheld 6 []

-- 6 for a wrong type or command, whatever the data
unfoldable pub asked : ℕ → FrameType → ℕ → Judgement
asked wanted t command = cond (eqb command wanted) (request_judgement t) (withheld 6 [])

-- a reader takes the judgement apart: what is carried is read, and a refusal is passed on as it is
abbrev pub read_on : {A : Type 0} → Reader A → Judgement → List ℕ → A
read_on k carries bs = k.read bs
read_on k (withheld number values) bs = k.refuse number values

-- then the data are read, all of them: a request has no status bytes
unfoldable pub asked_in : {A : Type 0} → Reader A → FrameType → ℕ → List ℕ → A
asked_in k t command ds = read_on k (asked k.number t command) ds

-- of a frame that a decoder found
unfoldable pub asked_of : {A : Type 0} → Reader A → Frame → A
asked_of k f = asked_in k f.frame_type f.command (data_of f)

-- a command whose request carries no data: there is nothing to read, and nothing to be too short
abbrev pub no_data : ℕ → Reader Judgement
no_data wanted = record { number = wanted; read = λ bs. carries; refuse = withheld }
