use Rattle.obd_cli.proofs.certify.certify.Goals as goal

pub certificate_of-requires-clause-complex : goal.certificate_of-requires-clause-complex
certificate_of-requires-clause-complex c = c.in_ok-complex.ensures c.args.book.now.limits.generators c.requires.within

pub complex_of-requires-clause-nice : goal.complex_of-requires-clause-nice
complex_of-requires-clause-nice c = c.requires.drawings.moved.leads.nice
