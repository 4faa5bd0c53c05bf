use Rattle.sccp_report.proofs.InSurvey.{survey_in}
use Rattle.sccp_plans.proofs.surveying.survey.Goals as goal

pub survey_text-text-requires : goal.survey_text-text-requires
survey_text-text-requires c = survey_in c.args.plan.now c.in_ok-survey.survey c.requires c.in_ok-survey.ensures

pub returns : goal.returns
returns c = record {
  survey = c.in_ok-survey.survey;
  is = (c.requires, c.in_ok-survey.ensures);
  status = c.status_of-status.ensures;
  text = c.in_ok-text.ensures;
}
