mod OpenWithin
mod OpenSteps
