mod Agreeing
pub mod AnswerLaw
pub mod BadLaw
mod ByWords
pub mod CheckLaws
pub mod BelongsFits
pub mod BelongsValid
mod Begins
mod BasisStage
mod BookLines
mod BookStage
mod CurveLines
mod ContactPoints
mod CurvesStage
mod Cutting
mod DrawingLines
pub mod Examples
mod FinalLines
mod FingerLines
mod EachLine
mod FinalsStage
mod FingersStage
mod GeneratorsStage
mod FirstFaults
pub mod FitsLaw
mod HandedOn
mod Joined
mod Kept
mod KeptBook
pub mod Laws
mod LastRules
mod LineLaws
mod NarrowPages
mod LineReaders
mod LineWords
mod NumberWords
mod Numbered
mod OutcomeLines
mod OneRule
mod OutcomeStage
mod LinesTaken
mod Loops
mod ParseLaw
mod Passed
mod Prefixes
mod PolygonLines
mod PolygonsStage
pub mod PrintedLaw
mod Reading
mod Rows
pub mod RulesAgree
mod SameLists
mod Sections
mod Staged
mod Sequences
mod SmallNumbers
mod SurfaceLaw
mod StrandLines
mod StrandsStage
mod SignedWords
pub mod TextLaws
pub mod TorusExamples
pub mod ValidLaw
mod Settled
mod SlideLines
mod SlidesStage
mod TwistLines
mod TwistsStage
mod WordLaws
mod WordReaders
