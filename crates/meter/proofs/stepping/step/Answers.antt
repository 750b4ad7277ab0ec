-- What is proved of the definition's answer holds of this one.
use Rattle.meter.proofs.Answers.{step_number, answers, accepted_exactly, accepted_has_temperatures}
use Rattle.meter.proofs.stepping.step.Goals as goal

pub returns : goal.returns
returns c =
    let same = c.taken.ensures in
    record {
      answer = same;
      number = step_number _ _ _ same;
      answers = answers _ _ _ same;
      accepted_exactly = accepted_exactly _ _ _ same;
      accepted_has_temperatures = accepted_has_temperatures _ _ _ same;
    }
