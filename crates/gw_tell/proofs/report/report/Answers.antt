use Rattle.gw_tell.proofs.Reporting.{all_are_true}
use Rattle.gw_tell.proofs.report.report.Goals as goal

pub returns-clause-changes : goal.returns-clause-changes
returns-clause-changes c = record {
  between = c.report_alarms.new.text.items;
  behind = c.report_rows.new.text.items;
  alarms = c.report_alarms.ensures.step;
  alarms_are = c.report_alarms.ensures.told;
  rows = c.report_rows.ensures.steps;
  counts_are = c.report_counts.ensures.lines;
  counts_told = c.report_counts.ensures.told;
}

pub returns-clause-true_picture : goal.returns-clause-true_picture
returns-clause-true_picture c = record {
  alarms_are = c.report_alarms.ensures.told;
  rows_are = all_are_true _ c.args.told.now.rows c.args.is.now.rows c.report_rows.new.told _ _ 30
      c.report_rows.ensures.steps;
}
