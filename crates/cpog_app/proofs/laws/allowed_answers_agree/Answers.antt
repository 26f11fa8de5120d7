use Rattle.cpog_app.proofs.AgreeLemmas as laws
use Rattle.cpog_app.proofs.laws.allowed_answers_agree.Goals as goal

pub returns : goal.returns
returns c = laws.allowed_agree
