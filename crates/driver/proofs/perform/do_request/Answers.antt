use Rattle.driver.proofs.Requests.{same_request}
use Rattle.driver.proofs.perform.do_request.Goals as goal

pub returns-in-Run-clause-done : goal.returns-in-Run-clause-done
returns-in-Run-clause-done g c = same_request c.do_run.result (g.S.Sources.known c.args.sources.now) _ _ _ c.args.request _ c.in-Run.is c.do_run.ensures.done

pub returns-in-Step-clause-done : goal.returns-in-Step-clause-done
returns-in-Step-clause-done g c = same_request c.do_step.result (g.S.Sources.known c.args.sources.now) _ _ _ c.args.request _ c.in-Step.is c.do_step.ensures.done

pub returns-in-Check-clause-done : goal.returns-in-Check-clause-done
returns-in-Check-clause-done g c = same_request c.do_check.result (g.S.Sources.known c.args.sources.now) _ _ _ c.args.request _ c.in-Check.is c.do_check.ensures.done

pub returns-in-List-clause-done : goal.returns-in-List-clause-done
returns-in-List-clause-done g c = same_request c.do_list.result (g.S.Sources.known c.args.sources.now) _ _ _ c.args.request _ c.in-List.is c.do_list.ensures.done

pub returns-in-Fix-clause-done : goal.returns-in-Fix-clause-done
returns-in-Fix-clause-done g c = same_request c.do_fix.result (g.S.Sources.known c.args.sources.now) _ _ _ c.args.request _ c.in-Fix.is c.do_fix.ensures.done

pub returns-in-Witness-clause-done : goal.returns-in-Witness-clause-done
returns-in-Witness-clause-done g c = same_request c.do_witness.result (g.S.Sources.known c.args.sources.now) _ _ _ c.args.request _ c.in-Witness.is c.do_witness.ensures.done

pub returns-in-Explain-clause-done : goal.returns-in-Explain-clause-done
returns-in-Explain-clause-done g c = same_request c.do_explain.result (g.S.Sources.known c.args.sources.now) _ _ _ c.args.request _ c.in-Explain.is c.do_explain.ensures.done

pub returns-in-View-clause-done : goal.returns-in-View-clause-done
returns-in-View-clause-done g c = same_request c.do_view.result (g.S.Sources.known c.args.sources.now) _ _ _ c.args.request _ c.in-View.is c.do_view.ensures.done
