use Rattle.std.proofs.Common.{rules, ap, ap₂, ◌≡◌, ◌∙◌, []}
use Rattle.clap.specs.Words.{App, app_of, with_rule, with_subcommand}
use Rattle.obd_cli.specs.CommandLine.{alone, sample}
use Rattle.obd_cli.proofs.command_line.obd_command.Goals as goal

pub returns : goal.returns
returns c =
    let sample_is : app_of c.in_ok-sample.sample ≡ record { top = sample; subs = [] } = c.in_ok-sample.ensures.shape (search rules)
    ∙ ap₂ with_rule (c.in_ok-with_seed.ensures.shape (search rules) ∙ ap₂ with_rule c.new.ensures.app c.seed_arg-seed.ensures.rule) c.twists_arg-twists.ensures.rule in
    let alone_is : app_of c.disable_help_subcommand-alone.result ≡ alone = search rules in
    let one = c.in_ok-one.ensures.shape (search rules) ∙ ap₂ with_subcommand alone_is (ap (λ (a : App). a.top) c.new-decide.ensures.app) in
    let two = c.in_ok-two.ensures.shape (search rules) ∙ ap₂ with_subcommand one (ap (λ (a : App). a.top) c.new-page.ensures.app) in
    let three = c.in_ok-three.ensures.shape (search rules) ∙ ap₂ with_subcommand two (ap (λ (a : App). a.top) c.new-check.ensures.app) in
    c.in_ok-four.ensures.shape (search rules) ∙ ap₂ with_subcommand three (ap (λ (a : App). a.top) sample_is)
